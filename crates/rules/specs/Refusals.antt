-- The refusal table: one test for each row, on its own. The number answered is the first that fits.
use Rattle.std.specs.Prelude.{ℕ, ◌+◌, ◌*◌, ◌/◌, ◌%◌, Bool, cond, not, ◌&&◌, ◌||◌, List, [], ◌∷◌, Some, None, Ok, Err, Option, Result, ◌==◌, nat_le, nat_lt}
use Rattle.terms.specs.Limits.{page_size}
use Rattle.terms.specs.declared.refusal.Refusal.{Refusal}
use Rattle.terms.specs.declared.refusal.Refusal.TheVariants as refusal
use Rattle.device.specs.Meaning.{exists}
use Rattle.mapper.specs.Words.{split}
use Rattle.registers.specs.States.{asleep}
use Rattle.power.specs.Causes.{interrupts}
use Rattle.frames.specs.Lines.{Line, is_frame, kind_field, a_field, v_field}
use Rattle.rules.specs.Machine.{Machine, device, powered}

-- sets of kinds, by their numbers
abbrev pub one_of : ℕ → ℕ → ℕ → Bool
one_of k i j = k == i || k == j

abbrev pub is_listed : ℕ → Bool
is_listed k = nat_le k 0x06 || (nat_le 0x10 k && nat_le k 0x16)

abbrev pub has_level : ℕ → Bool
has_level k = one_of k 0x12 0x13 || one_of k 0x15 0x16

-- kinds without an a, and kinds without a v
abbrev pub no_a : ℕ → Bool
no_a k = one_of k 0x00 0x10 || has_level k || k == 0x14

abbrev pub no_v : ℕ → Bool
no_v k = one_of k 0x00 0x10 || one_of k 0x02 0x04 || one_of k 0x06 0x11 || k == 0x14

-- the socket and the place that a CPU address names, whether or not its page is mapped
abbrev pub socket_at : Machine → ℕ → ℕ
socket_at m a = (split (m.words (a / page_size))).socket

abbrev pub place_at : Machine → ℕ → ℕ
place_at m a = (split (m.words (a / page_size))).page * page_size + a % page_size

-- each row's test, on the frame's kind k and its fields a and v

abbrev pub unlisted : ℕ → Bool
unlisted k = not (is_listed k)

abbrev pub unused_not_zero : ℕ → ℕ → ℕ → Bool
unused_not_zero k a v = (no_a k && not (a == 0)) || (no_v k && not (v == 0))

-- above FFh for kinds 01 and 05, above 1 for levels, above 4 for STATE
abbrev pub value_above : ℕ → ℕ → ℕ → Bool
value_above k a v = (one_of k 0x01 0x05 && nat_lt 0xFF v) || (has_level k && nat_lt 1 v) || (k == 0x01 && a == 0x00 && nat_lt 4 v)

-- above 0Fh for a register, 3Fh for a page, FFFFFh for an address, 07h for a source
abbrev pub index_above : ℕ → ℕ → Bool
index_above k a =
    (one_of k 0x01 0x02 && nat_lt 0x0F a) || (one_of k 0x03 0x04 && nat_lt 0x3F a) || (one_of k 0x05 0x06 && nat_lt 0xFFFFF a) || (k == 0x11 && nat_lt 0x07 a)

-- kinds 01 to 06 in Suspend or Off
abbrev pub commanded_asleep : Machine → ℕ → Bool
commanded_asleep m k = nat_le 0x01 k && nat_le k 0x06 && asleep m.power.state

-- a write to 05h or 0Ch-0Fh
abbrev pub writes_protected_register : ℕ → ℕ → Bool
writes_protected_register k a = k == 0x01 && (a == 0x05 || (nat_le 0x0C a && nat_le a 0x0F))

abbrev pub not_mapped : Machine → ℕ → ℕ → Bool
not_mapped m k a = one_of k 0x05 0x06 && not (split (m.words (a / page_size))).mapped

-- a write to a read-only page
abbrev pub writes_read_only : Machine → ℕ → ℕ → Bool
writes_read_only m k a = k == 0x05 && (split (m.words (a / page_size))).readonly

-- the socket's line is 0
abbrev pub unpowered : Machine → ℕ → ℕ → Bool
unpowered m k a = one_of k 0x05 0x06 && not (powered m.power (socket_at m a))

abbrev pub no_place : Machine → ℕ → ℕ → Bool
no_place m k a = one_of k 0x05 0x06 && not (exists (device m (socket_at m a)) (place_at m a))

-- a write to a place that cannot be written
abbrev pub writes_protected_place : Machine → ℕ → ℕ → Bool
writes_protected_place m k a =
    (k == 0x05) && exists (device m (socket_at m a)) (place_at m a) && not ((device m (socket_at m a)).writable (place_at m a))

-- STATE 3 or 4 written while CAUSE is not 00h
abbrev pub suspends_with_cause : Machine → ℕ → ℕ → ℕ → Bool
suspends_with_cause m k a v = k == 0x01 && a == 0x00 && one_of v 3 4 && interrupts m.power

pub record Row : Type 0 where
  pub refusal : Refusal
  pub fits : Machine → Line → Bool

abbrev row : Refusal → (Machine → ℕ → ℕ → ℕ → Bool) → Row
row r test = record { refusal = r; fits = λ m l. test m (kind_field l) (a_field l) (v_field l) }

-- the table, in its rank
abbrev pub rows : List Row
rows =
    record { refusal = refusal.NotAFrame; fits = λ m l. not (is_frame l) }
    ∷ row refusal.UnknownKind (λ m k a v. unlisted k)
    ∷ row refusal.UnusedFieldNotZero (λ m k a v. unused_not_zero k a v)
    ∷ row refusal.ValueTooLarge (λ m k a v. value_above k a v)
    ∷ row refusal.IndexTooLarge (λ m k a v. index_above k a)
    ∷ row refusal.Asleep (λ m k a v. commanded_asleep m k)
    ∷ row refusal.RegisterNotWritable (λ m k a v. writes_protected_register k a)
    ∷ row refusal.PageNotMapped (λ m k a v. not_mapped m k a)
    ∷ row refusal.PageReadOnly (λ m k a v. writes_read_only m k a)
    ∷ row refusal.SocketUnpowered (λ m k a v. unpowered m k a)
    ∷ row refusal.NoSuchPlace (λ m k a v. no_place m k a)
    ∷ row refusal.WriteProtected (λ m k a v. writes_protected_place m k a)
    ∷ row refusal.CausePending (λ m k a v. suspends_with_cause m k a v)
    ∷ []

-- the first row that fits
abbrev pub first_fit : List Row → Machine → Line → Option Refusal
first_fit [] m l = None
first_fit (r ∷ rs) m l = cond (r.fits m l) (Some r.refusal) (first_fit rs m l)

-- why an outcome is a refusal, and nothing where the line is taken
abbrev pub refused_with : Result ℕ Refusal → Option Refusal
refused_with (Ok v) = None
refused_with (Err r) = Some r
