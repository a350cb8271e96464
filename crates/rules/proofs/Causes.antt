-- How a frame changes the bits of CAUSE.
use Rattle.std.proofs.Common.{◌≡◌, ℕ, ◌-◌, ◌/◌, ◌%◌, ◌^◌, ◌<◌, Bool, true, false, cond, not, ◌&&◌, ◌||◌, eqb, ltb, ◌⊎◌, is_ok, Some, None, Option, sym, refl, ap, ◌∙◌, inl, inr, arith}
use Rattle.std.proofs.lemmas.Bool.{cases_eq, cond_both}
use lib.Bits.{bit_or}
use Rattle.std.proofs.lemmas.Nat.{or_shr, or_mod, mod_below}
use Rattle.std.proofs.lemmas.Bool.Decides.{nat_tests}
use Rattle.registers.specs.States.{asleep}
use Rattle.power.specs.Power.{Power, mask, cause, counting}
use Rattle.registers.specs.Registers.{bit}
use Rattle.power.specs.Causes.{position, raised, noted}
use Rattle.power.specs.Commands.{write_answer, write_done, stores, read_done}
use Rattle.power.specs.Inputs.{ticked, sampled, expired, held, source_given, ext_given, ring_given, alarmed, battery_given}
use Rattle.power.specs.declared.cause.Cause.{Cause}
use Rattle.power.specs.declared.cause.Cause.TheVariants as is
use Rattle.registers.specs.declared.state.State.{State}
use Rattle.registers.specs.declared.state.State.TheVariants.{On, Doze, Sleep, Suspend, Off}
use Rattle.rules.proofs.Press.{impossible}

-- a bit of two numbers joined
or_digit : (y z : ℕ) → y < 2 → z < 2 → eqb (bit_or y z) 1 ≡ (eqb z 1 || eqb y 1)
or_digit y z h g =
    elim (two y h) [
      | inl e ↦ elim (two z g) [
        | inl f ↦ ap (λ n. eqb (bit_or n z) 1) e ∙ ap (λ n. eqb (bit_or 0 n) 1) f ∙ sym (ap (λ n. eqb n 1 || eqb y 1) f ∙ ap (λ n. eqb 0 1 || eqb n 1) e)
        | inr f ↦ ap (λ n. eqb (bit_or n z) 1) e ∙ ap (λ n. eqb (bit_or 0 n) 1) f ∙ sym (ap (λ n. eqb n 1 || eqb y 1) f ∙ ap (λ n. eqb 1 1 || eqb n 1) e)
      ]
      | inr e ↦ elim (two z g) [
        | inl f ↦ ap (λ n. eqb (bit_or n z) 1) e ∙ ap (λ n. eqb (bit_or 1 n) 1) f ∙ sym (ap (λ n. eqb n 1 || eqb y 1) f ∙ ap (λ n. eqb 0 1 || eqb n 1) e)
        | inr f ↦ ap (λ n. eqb (bit_or n z) 1) e ∙ ap (λ n. eqb (bit_or 1 n) 1) f ∙ sym (ap (λ n. eqb n 1 || eqb y 1) f ∙ ap (λ n. eqb 1 1 || eqb n 1) e)
      ]
    ]
  where
    two : (n : ℕ) → n < 2 → (n ≡ 0) ⊎ (n ≡ 1)
    two n h = elim (cases_eq n 0) [ inl e ↦ inl e | inr d ↦ inr (omega arith) ]

pub bit-bit_or : (j x b : ℕ) → bit j (bit_or x b) ≡ (bit j b || bit j x)
bit-bit_or j x b =
    ap (λ n. eqb (n % 2) 1) (or_shr x b j)
    ∙ ap (λ n. eqb n 1) (or_mod (x / 2 ^ j) (b / 2 ^ j) 1)
    ∙ or_digit (x / 2 ^ j % 2) (b / 2 ^ j % 2) (mod_below (x / 2 ^ j) 2 (omega arith)) (mod_below (b / 2 ^ j) 2 (omega arith))

-- whether a bit is that of the cause that arose
abbrev pub hits : ℕ → Option Cause → Bool
hits j None = false
hits j (Some c) = bit j (2 ^ position c)

-- the cause that arises by a tick, a rise of EXT or the battery warning, an activity, a violation
abbrev pub tick_cause_in : State → ℕ → Option Cause
tick_cause_in On masks = cond (bit 0 masks) None (Some is.Doze)
tick_cause_in Doze masks = cond (bit 1 masks) None (Some is.Sleep)
tick_cause_in Sleep masks = cond (bit 2 masks) None (Some is.Suspend)
tick_cause_in Suspend masks = None
tick_cause_in Off masks = None

abbrev pub tick_cause : Power → Option Cause
tick_cause u = cond (eqb u.idle 1 && not (held u.state (sampled u))) (tick_cause_in u.state (mask u)) None

abbrev pub ext_cause : Bool → Power → Option Cause
ext_cause v u = cond (v && not u.ext && eqb u.low 2 && not (asleep u.state)) (cond (bit 3 (mask u)) None (Some is.Ext)) None

abbrev pub battery_cause : Bool → Power → Option Cause
battery_cause v u = cond (v && not u.battery && not (asleep u.state)) (cond (bit 4 (mask u)) None (Some is.Battery)) None

abbrev pub activity_cause_in : State → Power → Option Cause
activity_cause_in On u = None
activity_cause_in Doze u = cond (bit 0 (mask u)) None (Some is.Activity)
activity_cause_in Sleep u = cond (bit 1 (mask u)) None (Some is.Activity)
activity_cause_in Suspend u = None
activity_cause_in Off u = None

abbrev pub activity_cause : ℕ → Power → Option Cause
activity_cause source u = cond (bit source (u.table 0x07)) None (activity_cause_in u.state u)

expired_bits : (j : ℕ) (s : State) (u : Power) → bit j (cause (expired s u)) ≡ (hits j (tick_cause_in s (mask u)) || bit j (cause u))
expired_bits j On u = let e = bit-bit_or j (cause u) 1 in grind (arith, nat_tests)
expired_bits j Doze u = let e = bit-bit_or j (cause u) 2 in grind (arith, nat_tests)
expired_bits j Sleep u = let e = bit-bit_or j (cause u) 4 in grind (arith, nat_tests)
expired_bits j Suspend u = refl
expired_bits j Off u = refl

-- the counter falls: to 0, or not
falls : (j : ℕ) (above last still : Bool) (c : Option Cause) (x y z : Power) → (last ≡ true → above ≡ true)
    → bit j (cause x) ≡ (hits j c || bit j (cause z)) → cause y ≡ cause z
    → bit j (cause (cond (above && not still) (cond last x y) z)) ≡ (hits j (cond (last && not still) c None) || bit j (cause z))
falls j true true true c x y z h e f = refl
falls j true true false c x y z h e f = e
falls j true false true c x y z h e f = refl
falls j true false false c x y z h e f = ap (bit j) f
falls j false true still c x y z h e f = impossible (let g = h refl in cc)
falls j false false true c x y z h e f = refl
falls j false false false c x y z h e f = refl

pub tick_bits : (j : ℕ) (u : Power) → bit j (cause (ticked u)) ≡ (hits j (tick_cause u) || bit j (cause u))
tick_bits j u =
    let w = sampled u in
    falls j (ltb 0 u.idle) (eqb u.idle 1) (held u.state w) (tick_cause_in u.state (mask u))
    (expired u.state (counting 0 w)) (counting (u.idle - 1) w) w (λ e. grind (arith, nat_tests)) (expired_bits j u.state (counting 0 w)) refl

pub ext_bits : (j : ℕ) (v : Bool) (u : Power) → bit j (cause (ext_given v u)) ≡ (hits j (ext_cause v u) || bit j (cause u))
ext_bits j v u = let e = bit-bit_or j (cause u) 8 in grind (arith, nat_tests)

pub battery_bits : (j : ℕ) (v : Bool) (u : Power) → bit j (cause (battery_given v u)) ≡ (hits j (battery_cause v u) || bit j (cause u))
battery_bits j v u = let e = bit-bit_or j (cause u) 16 in grind (arith, nat_tests)

pub activity_bits : (j : ℕ) (s : ℕ) (u : Power) → bit j (cause (source_given s u)) ≡ (hits j (activity_cause s u) || bit j (cause u))
activity_bits j s u = let e = bit-bit_or j (cause u) 64 in grind (arith, nat_tests)

pub ring_bits : (v : Bool) (u : Power) → cause (ring_given v u) ≡ cause u
ring_bits v u = grind (arith, nat_tests)

pub alarm_bits : (u : Power) → cause (alarmed u) ≡ cause u
alarm_bits u = grind (arith, nat_tests)

taken_write : (i v : ℕ) (u : Power) → is_ok (write_answer i v u) ≡ true → eqb 0x05 i ≡ false
taken_write i v u ok = grind (arith, nat_tests)

stored_bits : (i v : ℕ) (u : Power) → eqb 0x05 i ≡ false → cause (stores i v u) ≡ cause u
stored_bits i v u other = grind (arith, nat_tests)

pub write_bits : (i v : ℕ) (u : Power) → cause (write_done i v u) ≡ cause u
write_bits i v u =
    cond_both (is_ok (write_answer i v u)) (stores i v u) u (λ (x : Power). cause x ≡ cause u)
    (λ ok. stored_bits i v u (taken_write i v u ok)) (λ n. refl)

-- a read of CAUSE that is taken clears it
pub read_bits : (i : ℕ) (u : Power) → cause (read_done i u) ≡ cond (eqb i 0x05 && not (asleep u.state)) 0 (cause u)
read_bits i u = grind (arith, nat_tests)

-- the cause of a violation
abbrev pub violation_cause : Bool → Power → Option Cause
violation_cause noted_it u = cond noted_it (cond (bit 5 (mask u)) None (Some is.Violation)) None

pub violation_bits : (j : ℕ) (a : ℕ) (u : Power) → bit j (cause (raised is.Violation (noted a u))) ≡ (hits j (violation_cause true u) || bit j (cause u))
violation_bits j a u = let e = bit-bit_or j (cause u) 32 in grind (arith, nat_tests)
