-- What a guard makes of the device below it.
use Rattle.std.specs.Prelude.{ℕ, ◌/◌, Bool, true, false, cond, not, ◌&&◌, List, nat_lt, slice_index_or, slice_set}
use Rattle.device.specs.Meaning.{Meaning}
use Rattle.guard.specs.declared.guard.SegmentSize.{SegmentSize}
use Rattle.guard.specs.declared.guard.SegmentSize.TheVariants.{Places2048, Places4096}

-- how many segments have a flag
abbrev pub flag_count : ℕ
flag_count = 256

-- how many places a segment has
abbrev pub segment_places : SegmentSize → ℕ
segment_places Places2048 = 2048
segment_places Places4096 = 4096

-- one flag more is set, if the segment has one
abbrev pub flag : List Bool → ℕ → List Bool
flag flags segment = cond (nat_lt segment flag_count) (slice_set flags segment true) flags

-- whether the segment of a place is flagged: those that have no flag never are
abbrev pub flagged : SegmentSize → List Bool → ℕ → Bool
flagged segments flags p = nat_lt (p / segment_places segments) flag_count && slice_index_or flags (p / segment_places segments) false

-- a place can be written where the device below allows it and its segment is not flagged
abbrev pub guarded : SegmentSize → List Bool → Meaning → Meaning
guarded segments flags below = record {
  size = below.size;
  byte = below.byte;
  writable = λ p. below.writable p && not (flagged segments flags p);
  keeps = below.keeps;
}
