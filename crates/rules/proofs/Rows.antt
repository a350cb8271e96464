-- The number answered is that of the first row that fits.
use Rattle.std.proofs.Common.{◌≡◌, ℕ, zero, suc, ◌<◌, Bool, true, false, cond, not, eqb, [], ◌∷◌, length, Some, None, Err, Option, sym, refl, ap, ◌∙◌, subst, inl, inr, arith}
use Rattle.std.proofs.lemmas.Bool.Decides.{nat_tests}
use Rattle.std.proofs.lemmas.Bool.{cases_eq, and_parts, eqb-true, ltb-true}
use Rattle.terms.specs.declared.refusal.Refusal.{Refusal}
use Rattle.terms.specs.declared.refusal.Refusal.TheVariants as refusal
use Rattle.frames.specs.Lines.{Line, digit, is_digit, all_digits, is_frame, digit_at, kind_field, a_field, v_field}
use Rattle.frames.specs.Kinds.{kind_of}
use Rattle.frames.specs.Decode.{listed, decoded}
use Rattle.rules.specs.Machine.{Machine}
use Rattle.rules.specs.Step.{outcome, outcome_if}
use Rattle.rules.specs.Refusals.{is_listed, unlisted, unused_not_zero, value_above, index_above, commanded_asleep, writes_protected_register, not_mapped, writes_read_only, unpowered, no_place, writes_protected_place, suspends_with_cause, rows, first_fit, refused_with}

-- the rows after the first, on the fields
abbrev pub judged : Machine → ℕ → ℕ → ℕ → Option Refusal
judged m k a v =
    cond (unlisted k) (Some refusal.UnknownKind)
    (cond (unused_not_zero k a v) (Some refusal.UnusedFieldNotZero)
    (cond (value_above k a v) (Some refusal.ValueTooLarge)
    (cond (index_above k a) (Some refusal.IndexTooLarge)
    (cond (commanded_asleep m k) (Some refusal.Asleep)
    (cond (writes_protected_register k a) (Some refusal.RegisterNotWritable)
    (cond (not_mapped m k a) (Some refusal.PageNotMapped)
    (cond (writes_read_only m k a) (Some refusal.PageReadOnly)
    (cond (unpowered m k a) (Some refusal.SocketUnpowered)
    (cond (no_place m k a) (Some refusal.NoSuchPlace)
    (cond (writes_protected_place m k a) (Some refusal.WriteProtected)
    (cond (suspends_with_cause m k a v) (Some refusal.CausePending) None)))))))))))

abbrev Judges : ℕ → Type 0
Judges k = (m : Machine) (a v : ℕ) → v < 0x10000 → refused_with (outcome_if (listed (kind_of k) a v) m) ≡ judged m k a v

reset_judged : Judges 0x00
reset_judged m a v h = grind (arith, nat_tests)

register_write_judged : Judges 0x01
register_write_judged m a v h = grind (arith, nat_tests)

register_read_judged : Judges 0x02
register_read_judged m a v h = grind (arith, nat_tests)

page_write_judged : Judges 0x03
page_write_judged m a v h = grind (arith, nat_tests)

page_read_judged : Judges 0x04
page_read_judged m a v h = grind (arith, nat_tests)

cpu_write_judged : Judges 0x05
cpu_write_judged m a v h = grind (arith, nat_tests)

cpu_read_judged : Judges 0x06
cpu_read_judged m a v h = grind (arith, nat_tests)

tick_judged : Judges 0x10
tick_judged m a v h = grind (arith, nat_tests)

activity_judged : Judges 0x11
activity_judged m a v h = grind (arith, nat_tests)

ext_judged : Judges 0x12
ext_judged m a v h = grind (arith, nat_tests)

ring_judged : Judges 0x13
ring_judged m a v h = grind (arith, nat_tests)

alarm_judged : Judges 0x14
alarm_judged m a v h = grind (arith, nat_tests)

battery_judged : Judges 0x15
battery_judged m a v h = grind (arith, nat_tests)

ac_judged : Judges 0x16
ac_judged m a v h = grind (arith, nat_tests)

unlisted_judged : (k : ℕ) → is_listed k ≡ false → Judges k
unlisted_judged k n m a v h = grind (arith, nat_tests)

-- a number is the one or another
by_number : (P : ℕ → Type 0) (k n : ℕ) → P n → ((k ≡ n → ⊥) → P k) → P k
by_number P k n there elsewhere =
    elim (cases_eq k n) [
      | inl e ↦ subst P (sym e) there
      | inr d ↦ elsewhere d
    ]

judge_all : (k : ℕ) → Judges k
judge_all k =
    by_number Judges k 0x00 reset_judged (λ n0.
    by_number Judges k 0x01 register_write_judged (λ n1.
    by_number Judges k 0x02 register_read_judged (λ n2.
    by_number Judges k 0x03 page_write_judged (λ n3.
    by_number Judges k 0x04 page_read_judged (λ n4.
    by_number Judges k 0x05 cpu_write_judged (λ n5.
    by_number Judges k 0x06 cpu_read_judged (λ n6.
    by_number Judges k 0x10 tick_judged (λ n7.
    by_number Judges k 0x11 activity_judged (λ n8.
    by_number Judges k 0x12 ext_judged (λ n9.
    by_number Judges k 0x13 ring_judged (λ n10.
    by_number Judges k 0x14 alarm_judged (λ n11.
    by_number Judges k 0x15 battery_judged (λ n12.
    by_number Judges k 0x16 ac_judged (λ n13.
    unlisted_judged k (grind (arith, nat_tests))))))))))))))))

-- the digits of a frame are below 16
digit_below : (l : Line) → all_digits l ≡ true → (i : ℕ) → i < length l → digit_at l i < 16
digit_below [] d i h = absurd (omega arith)
digit_below (b ∷ l) d zero h = ltb-true (digit b) 16 (and_parts (is_digit b) (all_digits l) d).0
digit_below (b ∷ l) d (suc i) h = digit_below l (and_parts (is_digit b) (all_digits l) d).1 i (omega arith)

v_below : (l : Line) → is_frame l ≡ true → v_field l < 0x10000
v_below l f =
    let p = and_parts (eqb (length l) 12) (all_digits l) f in
    let n = eqb-true (length l) 12 p.0 in
    omega (arith, digit_below l p.1 8 (omega arith), digit_below l p.1 9 (omega arith), digit_below l p.1 10 (omega arith), digit_below l p.1 11 (omega arith))

by_frame : (b : Bool) (m : Machine) (k a v : ℕ) → (b ≡ true → v < 0x10000)
    → refused_with (outcome_if (cond b (listed (kind_of k) a v) (Err refusal.NotAFrame)) m) ≡ cond (not b) (Some refusal.NotAFrame) (judged m k a v)
by_frame true m k a v h = judge_all k m a v (h refl)
by_frame false m k a v h = refl

pub first_row : (m : Machine) (l : Line) → refused_with (outcome m l) ≡ first_fit rows m l
unfolding outcome decoded
first_row m l = by_frame (is_frame l) m (kind_field l) (a_field l) (v_field l) (v_below l)

-- of a frame, the rows after the first
pub judged_is : (m : Machine) (l : Line) → is_frame l ≡ true → refused_with (outcome m l) ≡ judged m (kind_field l) (a_field l) (v_field l)
judged_is m l f = first_row m l ∙ ap (λ b. cond (not b) (Some refusal.NotAFrame) (judged m (kind_field l) (a_field l) (v_field l))) f
