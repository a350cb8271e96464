-- What a pair makes of its two devices.
use Rattle.std.specs.Prelude.{◌≡◌, ℕ, ◌*◌, ◌/◌, ◌%◌, ◌<◌, ◌≤◌, min, cond, Ok, Err, Result, ◌==◌}
use Rattle.device.specs.Sized.{sized, fitting}
use Rattle.device.specs.Meaning.{Meaning}
use Rattle.pair.specs.declared.pair.Chip.{Chip}
use Rattle.pair.specs.declared.pair.Chip.TheVariants.{Even, Odd}
use Rattle.terms.specs.declared.refusal.Fault.{Fault}
use Rattle.terms.specs.declared.refusal.Fault.TheVariants.{NoSuchPlace}

-- an even place is a place of the first, at half its number, and an odd place one of the second
abbrev pub by_turns : {A : Type 0} → (ℕ → A) → (ℕ → A) → ℕ → A
by_turns even odd p = cond (p % 2 == 0) (even (p / 2)) (odd (p / 2))

-- it ends where the shorter of the two ends
abbrev pub paired : Meaning → Meaning → Meaning
paired even odd =
    sized
    (fitting (2 * min even.size odd.size))
    (by_turns even.byte odd.byte)
    (by_turns even.writable odd.writable)
    (by_turns even.keeps odd.keeps)

-- where a place of a pair of that size lies: nowhere beyond the size, else at half its number in the chip whose turn it is
abbrev pub Lies : ℕ → ℕ → Result Chip Fault → Type 0
Lies size p (Ok (Even at)) = (p < size) × (p % 2 ≡ 0) × (at.index ≡ p / 2)
Lies size p (Ok (Odd at)) = (p < size) × (p % 2 ≡ 1) × (at.index ≡ p / 2)
Lies size p (Err e) = (size ≤ p) × (e ≡ NoSuchPlace)
