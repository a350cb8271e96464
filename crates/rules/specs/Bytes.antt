-- What a byte of a device is, over every list of lines, and when the processor's reads and writes are taken.
use Rattle.std.specs.Prelude.{◌≡◌, ℕ, ◌/◌, ◌<◌, true, false, List, [], ◌∷◌, ◌++◌, is_ok, Err}
use Rattle.terms.specs.Limits.{page_size}
use Rattle.terms.specs.declared.refusal.Refusal.{Refusal}
use Rattle.device.specs.Meaning.{Meaning}
use Rattle.mapper.specs.Words.{split}
use Rattle.mapper.specs.Translation.{socket_number}
use Rattle.mapper.specs.declared.word.Socket.{Socket}
use Rattle.mapper.specs.declared.word.Socket.TheVariants as socket
use Rattle.registers.specs.States.{asleep}
use Rattle.power.specs.Causes.{raised, noted}
use Rattle.power.specs.declared.cause.Cause.TheVariants as cause
use Rattle.frames.specs.Lines.{Line, is_frame, kind_field, a_field, v_field}
use Rattle.rules.specs.Machine.{Machine, with_power, powered}
use Rattle.rules.specs.Access.{is_violation}
use Rattle.rules.specs.Step.{outcome, step, after}
use Rattle.rules.specs.Refusals.{socket_at, place_at, unused_not_zero, value_above, index_above}

-- the device in a socket
abbrev pub device_of : Machine → Socket → Meaning
device_of m socket.Ram = m.ram
device_of m socket.Rom = m.rom
device_of m socket.CardA = m.card_a
device_of m socket.CardB = m.card_b

-- the kinds of the processor's writes and reads
abbrev pub cpu_write_kind : ℕ
cpu_write_kind = 0x05

abbrev pub cpu_read_kind : ℕ
cpu_read_kind = 0x06

-- a CPU address leads to a place of a socket
pub record Leads (m : Machine) (a : ℕ) (s : Socket) (p : ℕ) : Type 0 where
  pub mapped : (split (m.words (a / page_size))).mapped ≡ true
  pub socket : socket_at m a ≡ socket_number s
  pub place : place_at m a ≡ p

-- the line is a CPU write that is taken, whose address leads to the place, and whose value is b
pub record Writes (m : Machine) (l : Line) (s : Socket) (p b : ℕ) : Type 0 where
  pub taken : is_ok (outcome m l) ≡ true
  pub kind : kind_field l ≡ cpu_write_kind
  pub leads : Leads m (a_field l) s p
  pub value : v_field l ≡ b

-- the socket's power line is 1 before the line and 0 after it, the place exists and is volatile, and b is FFh
pub record Loses (m : Machine) (l : Line) (s : Socket) (p b : ℕ) : Type 0 where
  pub before : powered m.power (socket_number s) ≡ true
  pub after_it : powered (step m l).power (socket_number s) ≡ false
  pub exists : p < (device_of m s).size
  pub volatile : (device_of m s).keeps p ≡ false
  pub value : b ≡ 0xFF

-- the line, on the machine m, sets the place to b
pub data Sets (m : Machine) (l : Line) (s : Socket) (p b : ℕ) : Type 0 where
  by_write : Writes m l s p b → Sets m l s p b
  by_loss : Loses m l s p b → Sets m l s p b

-- no line of `newer`, which came after `older`, sets the place
abbrev pub Untouched : Machine → List Line → List Line → Socket → ℕ → Type 0
Untouched first [] older s p = Unit {0}
Untouched first (l ∷ newer) older s p = ((b : ℕ) → Sets (after first (newer ++ older)) l s p b → ⊥) × Untouched first newer older s p

-- a byte of a device is what the last line that set it gave it, or its first byte
pub record ByteLaw (first : Machine) (ls : List Line) (end : Machine) (s : Socket) (p : ℕ) : Type 0 where
  pub set_last : (newer older : List Line) (l : Line) (b : ℕ) → ls ≡ newer ++ (l ∷ older) → Sets (after first older) l s p b → Untouched first newer (l ∷ older) s p
      → (device_of end s).byte p ≡ b
  pub never_set : Untouched first ls [] s p → (device_of end s).byte p ≡ (device_of first s).byte p

-- size, writable and kept are those of the first devices
pub record SameShape (first end : Machine) (s : Socket) : Type 0 where
  pub size : (device_of end s).size ≡ (device_of first s).size
  pub writable : (device_of end s).writable ≡ (device_of first s).writable
  pub keeps : (device_of end s).keeps ≡ (device_of first s).keeps

-- a CPU read that is taken answers the byte of the place that its address leads to
abbrev pub ReadLaw : Machine → Line → ℕ → Type 0
ReadLaw m l value = kind_field l ≡ cpu_read_kind → (s : Socket) (p : ℕ) → Leads m (a_field l) s p → value ≡ (device_of m s).byte p

-- none of the rows on the form of a frame fits; that its kind is listed is said where the kind is named
pub record WellFormed (l : Line) : Type 0 where
  pub frame : is_frame l ≡ true
  pub unused_zero : unused_not_zero (kind_field l) (a_field l) (v_field l) ≡ false
  pub value_fits : value_above (kind_field l) (a_field l) (v_field l) ≡ false
  pub index_fits : index_above (kind_field l) (a_field l) ≡ false

-- what lets a CPU write through
pub record Allowed (m : Machine) (a : ℕ) (s : Socket) : Type 0 where
  pub awake : asleep m.power.state ≡ false
  pub leads : Leads m a s (place_at m a)
  pub not_read_only : (split (m.words (a / page_size))).readonly ≡ false
  pub has_power : powered m.power (socket_number s) ≡ true
  pub exists : place_at m a < (device_of m s).size
  pub writable : (device_of m s).writable (place_at m a) ≡ true

-- a well-formed CPU write is taken exactly when it is allowed
pub record WriteLaw (m : Machine) (l : Line) : Type 0 where
  pub only : kind_field l ≡ cpu_write_kind → WellFormed l → is_ok (outcome m l) ≡ true → (s : Socket) × Allowed m (a_field l) s
  pub always : kind_field l ≡ cpu_write_kind → WellFormed l → (s : Socket) → Allowed m (a_field l) s → is_ok (outcome m l) ≡ true

-- a line that is turned away leaves the whole machine equal, but for a violation that is noted: its address, and its cause unless that is masked
pub record RefusedLaw (m : Machine) (l : Line) (end : Machine) : Type 0 where
  pub unchanged : (r : Refusal) → outcome m l ≡ Err r → is_violation r ≡ false → end ≡ m
  pub noted_only : (r : Refusal) → outcome m l ≡ Err r → is_violation r ≡ true → end ≡ with_power (raised cause.Violation (noted (a_field l) m.power)) m
