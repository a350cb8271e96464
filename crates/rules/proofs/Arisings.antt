-- A bit of CAUSE is set exactly where its cause arose since CAUSE was cleared.
use Rattle.std.proofs.Common.{◌≡◌, ℕ, ◌%◌, ◌^◌, Bool, true, false, cond, not, ◌&&◌, ◌||◌, eqb, ◌⊎◌, List, [], ◌∷◌, ◌++◌, is_ok, Some, None, Ok, Err, Option, Result, sym, refl, ap, ◌∙◌, subst, inl, inr, arith}
use native.Mathlib.Nat.{zero-div}
use Rattle.std.proofs.lemmas.Bool.Decides.{nat_tests}
use Rattle.std.proofs.lemmas.Bool.{cases_Bool, both_ways, and_parts, and_from, not-true, not_from_false, eqb-true, eq-eqb, cond-true, cond-false, or_cases}
use Rattle.terms.specs.declared.refusal.Refusal.{Refusal}
use Rattle.terms.specs.declared.refusal.Refusal.TheVariants as refusal
use Rattle.mapper.specs.Translation.{Target, leads}
use Rattle.registers.specs.States.{asleep}
use Rattle.power.specs.Power.{Power, mask, cause}
use Rattle.registers.specs.Registers.{bit}
use Rattle.power.specs.Commands.{write_answer}
use Rattle.power.specs.Causes.{position, raised, noted}
use Rattle.power.specs.declared.cause.Cause.{Cause}
use Rattle.power.specs.declared.cause.Cause.TheVariants as is
use Rattle.registers.specs.declared.state.State.{State}
use Rattle.registers.specs.declared.state.State.TheVariants.{On, Doze, Sleep, Suspend, Off}
use Rattle.frames.specs.Lines.{Line, kind_field, a_field, v_field}
use Rattle.frames.specs.Decode.{Frame, decoded}
use Rattle.rules.specs.Machine.{Machine, powered}
use Rattle.rules.specs.Access as access
use Rattle.rules.specs.Access.{is_violation, cpu_write, cpu_written, written_target}
use Rattle.rules.specs.Step.{outcome, outcome_as, outcome_if, step, step_if, done_as, after, high}
use Rattle.rules.specs.Signals as sig
use Rattle.rules.specs.Signals.{Input, Signal, signal_as, signal_if, signal, signals, level}
use Rattle.rules.specs.Waking.{asleep_at}
use Rattle.rules.specs.Arising.{Arises, ReadsCause, Clears, Uncleared, Pending, CauseLaw}
use Rattle.frames.specs.declared.kind.Kind.{Kind}
use Rattle.frames.specs.declared.kind.Kind.TheVariants as kind
use Rattle.rules.proofs.Press.{impossible, settled_low, low_settled}
use Rattle.rules.proofs.Signals.{cond_same, Inputs, inputs_after, inputs_agree, level_agrees, signal_is}
use Rattle.rules.proofs.Frames.{kind_number, same_kind, OfFields, of_line}
use Rattle.rules.proofs.Accesses.{refused_done, violation, violated_awake, awake_violation, plain_refusal, no_value_err, write_plain, read_plain, asleep_only, decoded_plain}
use Rattle.rules.proofs.Causes.{hits, tick_cause, ext_cause, battery_cause, activity_cause, activity_cause_in, violation_cause, tick_bits, ext_bits, battery_bits, activity_bits, ring_bits, alarm_bits, write_bits, read_bits, violation_bits}
use Rattle.rules.proofs.Wake.{New}

-- whether an outcome is a violation
abbrev violates : Result ℕ Refusal → Bool
violates (Ok v) = false
violates (Err r) = is_violation r

target_power : (m : Machine) (o : Option Target) (v : ℕ) → (written_target m o v).power ≡ m.power
target_power m None v = refl
target_power m (Some t) v = cond_same (λ (x : Machine). x.power) (not t.readonly && powered m.power t.socket) _ m m.power refl refl

through_power : (m : Machine) (a v : ℕ) (x : Result (Unit {0}) Refusal) → is_ok x ≡ true → (access.noted x a (written_target m (leads m.words a) v)).power ≡ m.power
through_power m a v (Ok u) e = target_power m (leads m.words a) v
through_power m a v (Err r) e = impossible (cc)

taken_through : (m : Machine) (a v x : ℕ) → outcome_as kind.CpuWrite a v m ≡ Ok x → (asleep m.power.state ≡ false) × (is_ok (cpu_write m a) ≡ true)
taken_through m a v x e = (grind (arith, nat_tests), grind (arith, nat_tests))

-- the power unit after a CPU write
cpu_power : (m : Machine) (a v : ℕ) (o : Result ℕ Refusal) → outcome_as kind.CpuWrite a v m ≡ o → (done_as kind.CpuWrite a v m).power ≡ cond (violates o) (raised is.Violation (noted a m.power)) m.power
cpu_power m a v (Ok x) e =
    let t = taken_through m a v x e in
    ap (λ (n : Machine). n.power) (cond-false (asleep m.power.state) m (cpu_written m a v) t.0) ∙ through_power m a v (cpu_write m a) t.1
cpu_power m a v (Err r) e =
    elim (cases_Bool (is_violation r)) [
      | inl noted_it ↦
          ap (λ (n : Machine). n.power) (refused_done kind.CpuWrite a v m r e ∙ violation r a m noted_it)
          ∙ violated_awake a m.power (awake_violation kind.CpuWrite a v m r e noted_it)
          ∙ sym (cond-true (is_violation r) (raised is.Violation (noted a m.power)) m.power noted_it)
      | inr plain ↦
          ap (λ (n : Machine). n.power) (refused_done kind.CpuWrite a v m r e ∙ plain_refusal r a m plain)
          ∙ sym (cond-false (is_violation r) (raised is.Violation (noted a m.power)) m.power plain)
    ]

-- the cause that arises by a frame, if any
abbrev arisen_as : Kind → ℕ → ℕ → Machine → Option Cause
arisen_as kind.Reset a v m = None
arisen_as kind.RegisterWrite a v m = None
arisen_as kind.RegisterRead a v m = None
arisen_as kind.PageWrite a v m = None
arisen_as kind.PageRead a v m = None
arisen_as kind.CpuWrite a v m = violation_cause (violates (outcome_as kind.CpuWrite a v m)) m.power
arisen_as kind.CpuRead a v m = None
arisen_as kind.Tick a v m = tick_cause m.power
arisen_as kind.Activity a v m = activity_cause a m.power
arisen_as kind.Ext a v m = ext_cause (high v) m.power
arisen_as kind.Ring a v m = None
arisen_as kind.Alarm a v m = None
arisen_as kind.Battery a v m = battery_cause (high v) m.power
arisen_as kind.Ac a v m = None

-- whether a frame clears CAUSE
abbrev clears_as : Kind → ℕ → Machine → Bool
clears_as kind.Reset a m = true
clears_as kind.RegisterWrite a m = false
clears_as kind.RegisterRead a m = eqb a 0x05 && not (asleep m.power.state)
clears_as kind.PageWrite a m = false
clears_as kind.PageRead a m = false
clears_as kind.CpuWrite a m = false
clears_as kind.CpuRead a m = false
clears_as kind.Tick a m = false
clears_as kind.Activity a m = false
clears_as kind.Ext a m = false
clears_as kind.Ring a m = false
clears_as kind.Alarm a m = false
clears_as kind.Battery a m = false
clears_as kind.Ac a m = false

zero_bit : (j : ℕ) → bit j 0 ≡ false
zero_bit j = ap (λ n. eqb (n % 2) 1) (zero-div (2 ^ j))

cleared_bit : (j : ℕ) (b : Bool) (x : ℕ) → bit j (cond b 0 x) ≡ cond b false (bit j x)
cleared_bit j true x = zero_bit j
cleared_bit j false x = refl

violates_bits : (j : ℕ) (a : ℕ) (u : Power) (b : Bool) → bit j (cause (cond b (raised is.Violation (noted a u)) u)) ≡ (hits j (violation_cause b u) || bit j (cause u))
violates_bits j a u true = violation_bits j a u
violates_bits j a u false = refl

bits_as : (j : ℕ) (k : Kind) (a v : ℕ) (m : Machine)
    → bit j (cause (done_as k a v m).power) ≡ cond (clears_as k a m) false (hits j (arisen_as k a v m) || bit j (cause m.power))
bits_as j kind.Reset a v m = zero_bit j
bits_as j kind.RegisterWrite a v m = ap (bit j) (write_bits a v m.power)
bits_as j kind.RegisterRead a v m = ap (bit j) (read_bits a m.power) ∙ cleared_bit j (eqb a 0x05 && not (asleep m.power.state)) (cause m.power)
bits_as j kind.PageWrite a v m = cond_same (λ (x : Machine). bit j (cause x.power)) (asleep m.power.state) m _ (bit j (cause m.power)) refl refl
bits_as j kind.PageRead a v m = refl
bits_as j kind.CpuWrite a v m =
    ap (λ (u : Power). bit j (cause u)) (cpu_power m a v (outcome_as kind.CpuWrite a v m) refl)
    ∙ violates_bits j a m.power (violates (outcome_as kind.CpuWrite a v m))
bits_as j kind.CpuRead a v m = refl
bits_as j kind.Tick a v m = tick_bits j m.power
bits_as j kind.Activity a v m = activity_bits j a m.power
bits_as j kind.Ext a v m = ext_bits j (high v) m.power
bits_as j kind.Ring a v m = ap (bit j) (ring_bits (high v) m.power)
bits_as j kind.Alarm a v m = ap (bit j) (alarm_bits m.power)
bits_as j kind.Battery a v m = battery_bits j (high v) m.power
bits_as j kind.Ac a v m = refl

-- when a cause arises by a frame, by what the machine remembers
abbrev ByFrame : Cause → Kind → ℕ → ℕ → Machine → Type 0
ByFrame is.Doze k a v m = (k ≡ kind.Tick) × (m.power.state ≡ On) × (m.power.idle ≡ 1) × (m.power.ac ≡ false) × (bit 0 (mask m.power) ≡ false)
ByFrame is.Sleep k a v m = (k ≡ kind.Tick) × (m.power.state ≡ Doze) × (m.power.idle ≡ 1) × (bit 1 (mask m.power) ≡ false)
ByFrame is.Suspend k a v m = (k ≡ kind.Tick) × (m.power.state ≡ Sleep) × (m.power.idle ≡ 1) × (bit 2 (mask m.power) ≡ false)
ByFrame is.Ext k a v m = (k ≡ kind.Ext) × (high v ≡ true) × (m.power.ext ≡ false) × (m.power.low ≡ 2) × (asleep_at m ≡ false) × (bit 3 (mask m.power) ≡ false)
ByFrame is.Battery k a v m = (k ≡ kind.Battery) × (high v ≡ true) × (m.power.battery ≡ false) × (asleep_at m ≡ false) × (bit 4 (mask m.power) ≡ false)
ByFrame is.Violation k a v m = (k ≡ kind.CpuWrite) × (violates (outcome_as k a v m) ≡ true) × (bit 5 (mask m.power) ≡ false)
ByFrame is.Activity k a v m = (k ≡ kind.Activity) × (bit a (m.power.table 0x07) ≡ false) × (((m.power.state ≡ Doze) × (bit 0 (mask m.power) ≡ false)) ⊎ ((m.power.state ≡ Sleep) × (bit 1 (mask m.power) ≡ false)))

tick_from : (c : Cause) (a v : ℕ) (m : Machine) → hits (position c) (tick_cause m.power) ≡ true → ByFrame c kind.Tick a v m
tick_from is.Doze a v m h = (refl, grind (arith, nat_tests), grind (arith, nat_tests), grind (arith, nat_tests), grind (arith, nat_tests))
tick_from is.Sleep a v m h = (refl, grind (arith, nat_tests), grind (arith, nat_tests), grind (arith, nat_tests))
tick_from is.Suspend a v m h = (refl, grind (arith, nat_tests), grind (arith, nat_tests), grind (arith, nat_tests))
tick_from is.Ext a v m h = impossible (grind (arith, nat_tests))
tick_from is.Battery a v m h = impossible (grind (arith, nat_tests))
tick_from is.Violation a v m h = impossible (grind (arith, nat_tests))
tick_from is.Activity a v m h = impossible (grind (arith, nat_tests))

ext_from : (c : Cause) (a v : ℕ) (m : Machine) → hits (position c) (ext_cause (high v) m.power) ≡ true → ByFrame c kind.Ext a v m
ext_from is.Doze a v m h = impossible (grind (arith, nat_tests))
ext_from is.Sleep a v m h = impossible (grind (arith, nat_tests))
ext_from is.Suspend a v m h = impossible (grind (arith, nat_tests))
ext_from is.Ext a v m h = (refl, grind (arith, nat_tests), grind (arith, nat_tests), grind (arith, nat_tests), grind (arith, nat_tests), grind (arith, nat_tests))
ext_from is.Battery a v m h = impossible (grind (arith, nat_tests))
ext_from is.Violation a v m h = impossible (grind (arith, nat_tests))
ext_from is.Activity a v m h = impossible (grind (arith, nat_tests))

battery_from : (c : Cause) (a v : ℕ) (m : Machine) → hits (position c) (battery_cause (high v) m.power) ≡ true → ByFrame c kind.Battery a v m
battery_from is.Doze a v m h = impossible (grind (arith, nat_tests))
battery_from is.Sleep a v m h = impossible (grind (arith, nat_tests))
battery_from is.Suspend a v m h = impossible (grind (arith, nat_tests))
battery_from is.Ext a v m h = impossible (grind (arith, nat_tests))
battery_from is.Battery a v m h = (refl, grind (arith, nat_tests), grind (arith, nat_tests), grind (arith, nat_tests), grind (arith, nat_tests))
battery_from is.Violation a v m h = impossible (grind (arith, nat_tests))
battery_from is.Activity a v m h = impossible (grind (arith, nat_tests))

either_state : (s : State) (u : Power) → hits (position is.Activity) (activity_cause_in s u) ≡ true → ((s ≡ Doze) × (bit 0 (mask u) ≡ false)) ⊎ ((s ≡ Sleep) × (bit 1 (mask u) ≡ false))
either_state On u h = impossible (cc)
either_state Doze u h = inl (refl, grind (arith, nat_tests))
either_state Sleep u h = inr (refl, grind (arith, nat_tests))
either_state Suspend u h = impossible (cc)
either_state Off u h = impossible (cc)

activity_from : (c : Cause) (a v : ℕ) (m : Machine) → hits (position c) (activity_cause a m.power) ≡ true → ByFrame c kind.Activity a v m
activity_from is.Doze a v m h = impossible (grind (arith, nat_tests))
activity_from is.Sleep a v m h = impossible (grind (arith, nat_tests))
activity_from is.Suspend a v m h = impossible (grind (arith, nat_tests))
activity_from is.Ext a v m h = impossible (grind (arith, nat_tests))
activity_from is.Battery a v m h = impossible (grind (arith, nat_tests))
activity_from is.Violation a v m h = impossible (grind (arith, nat_tests))
activity_from is.Activity a v m h =
    let heard : bit a (m.power.table 0x07) ≡ false = grind (arith, nat_tests) in
    let there : hits (position is.Activity) (activity_cause_in m.power.state m.power) ≡ true = grind (arith, nat_tests) in
    (refl, heard, either_state m.power.state m.power there)

violation_from : (c : Cause) (a v : ℕ) (m : Machine) (b : Bool) → violates (outcome_as kind.CpuWrite a v m) ≡ b → hits (position c) (violation_cause b m.power) ≡ true → ByFrame c kind.CpuWrite a v m
violation_from is.Doze a v m b e h = impossible (grind (arith, nat_tests))
violation_from is.Sleep a v m b e h = impossible (grind (arith, nat_tests))
violation_from is.Suspend a v m b e h = impossible (grind (arith, nat_tests))
violation_from is.Ext a v m b e h = impossible (grind (arith, nat_tests))
violation_from is.Battery a v m b e h = impossible (grind (arith, nat_tests))
violation_from is.Violation a v m true e h = (refl, e, grind (arith, nat_tests))
violation_from is.Violation a v m false e h = impossible (cc)
violation_from is.Activity a v m b e h = impossible (grind (arith, nat_tests))

from_frame : (c : Cause) (k : Kind) (a v : ℕ) (m : Machine) → hits (position c) (arisen_as k a v m) ≡ true → ByFrame c k a v m
from_frame c kind.Reset a v m h = impossible (cc)
from_frame c kind.RegisterWrite a v m h = impossible (cc)
from_frame c kind.RegisterRead a v m h = impossible (cc)
from_frame c kind.PageWrite a v m h = impossible (cc)
from_frame c kind.PageRead a v m h = impossible (cc)
from_frame c kind.CpuWrite a v m h = violation_from c a v m (violates (outcome_as kind.CpuWrite a v m)) refl h
from_frame c kind.CpuRead a v m h = impossible (cc)
from_frame c kind.Tick a v m h = tick_from c a v m h
from_frame c kind.Activity a v m h = activity_from c a v m h
from_frame c kind.Ext a v m h = ext_from c a v m h
from_frame c kind.Ring a v m h = impossible (cc)
from_frame c kind.Alarm a v m h = impossible (cc)
from_frame c kind.Battery a v m h = battery_from c a v m h
from_frame c kind.Ac a v m h = impossible (cc)

to_frame : (c : Cause) (k : Kind) (a v : ℕ) (m : Machine) → ByFrame c k a v m → hits (position c) (arisen_as k a v m) ≡ true
to_frame is.Doze k a v m (ek, state, last, low_ac, clear) =
    let t : hits (position is.Doze) (tick_cause m.power) ≡ true = grind (arith, nat_tests) in ap (λ x. hits (position is.Doze) (arisen_as x a v m)) ek ∙ t
to_frame is.Sleep k a v m (ek, state, last, clear) =
    let t : hits (position is.Sleep) (tick_cause m.power) ≡ true = grind (arith, nat_tests) in ap (λ x. hits (position is.Sleep) (arisen_as x a v m)) ek ∙ t
to_frame is.Suspend k a v m (ek, state, last, clear) =
    let t : hits (position is.Suspend) (tick_cause m.power) ≡ true = grind (arith, nat_tests) in ap (λ x. hits (position is.Suspend) (arisen_as x a v m)) ek ∙ t
to_frame is.Ext k a v m (ek, up, was, two, awake, clear) =
    let t : hits (position is.Ext) (ext_cause (high v) m.power) ≡ true = grind (arith, nat_tests) in ap (λ x. hits (position is.Ext) (arisen_as x a v m)) ek ∙ t
to_frame is.Battery k a v m (ek, up, was, awake, clear) =
    let t : hits (position is.Battery) (battery_cause (high v) m.power) ≡ true = grind (arith, nat_tests) in ap (λ x. hits (position is.Battery) (arisen_as x a v m)) ek ∙ t
to_frame is.Violation k a v m (ek, refused, clear) =
    let w : violates (outcome_as kind.CpuWrite a v m) ≡ true = subst (λ (x : Kind). violates (outcome_as x a v m) ≡ true) ek refused in
    let t : hits (position is.Violation) (violation_cause true m.power) ≡ true = grind (arith, nat_tests) in
    ap (λ x. hits (position is.Violation) (arisen_as x a v m)) ek ∙ ap (λ b. hits (position is.Violation) (violation_cause b m.power)) w ∙ t
to_frame is.Activity k a v m (ek, heard, inl (state, clear)) =
    let t : hits (position is.Activity) (activity_cause a m.power) ≡ true = grind (arith, nat_tests) in ap (λ x. hits (position is.Activity) (arisen_as x a v m)) ek ∙ t
to_frame is.Activity k a v m (ek, heard, inr (state, clear)) =
    let t : hits (position is.Activity) (activity_cause a m.power) ≡ true = grind (arith, nat_tests) in ap (λ x. hits (position is.Activity) (arisen_as x a v m)) ek ∙ t

-- the number of the kind that gives a signal
abbrev number_giving : Signal → ℕ
number_giving sig.reset = 0x00
number_giving sig.tick = 0x10
number_giving (sig.gives sig.ext v) = 0x12
number_giving (sig.gives sig.ring v) = 0x13
number_giving sig.alarm = 0x14
number_giving (sig.gives sig.battery v) = 0x15
number_giving (sig.gives sig.ac v) = 0x16
number_giving sig.other = 0xFF

gives_number : (k : Kind) (v : ℕ) → (signal_as k v ≡ sig.other) ⊎ (kind_number k ≡ number_giving (signal_as k v))
gives_number kind.Reset v = inr refl
gives_number kind.RegisterWrite v = inl refl
gives_number kind.RegisterRead v = inl refl
gives_number kind.PageWrite v = inl refl
gives_number kind.PageRead v = inl refl
gives_number kind.CpuWrite v = inl refl
gives_number kind.CpuRead v = inl refl
gives_number kind.Tick v = inr refl
gives_number kind.Activity v = inl refl
gives_number kind.Ext v = inr refl
gives_number kind.Ring v = inr refl
gives_number kind.Alarm v = inr refl
gives_number kind.Battery v = inr refl
gives_number kind.Ac v = inr refl

-- which kind gives a signal
giver : (k j : Kind) (v : ℕ) (e : Signal) → signal_as k v ≡ e → number_giving e ≡ kind_number j → (e ≡ sig.other → ⊥) → k ≡ j
giver k j v e given number some =
    elim (gives_number k v) [
      | inl none ↦ absurd (some (sym given ∙ none))
      | inr n ↦ same_kind k j (n ∙ ap number_giving given ∙ number)
    ]

rise_only : (k : Kind) (v : ℕ) (i : Input) → signal_as k v ≡ sig.gives i true → high v ≡ true
rise_only kind.Reset v i e = impossible (cc)
rise_only kind.RegisterWrite v i e = impossible (cc)
rise_only kind.RegisterRead v i e = impossible (cc)
rise_only kind.PageWrite v i e = impossible (cc)
rise_only kind.PageRead v i e = impossible (cc)
rise_only kind.CpuWrite v i e = impossible (cc)
rise_only kind.CpuRead v i e = impossible (cc)
rise_only kind.Tick v i e = impossible (cc)
rise_only kind.Activity v i e = impossible (cc)
rise_only kind.Ext v i e = cc
rise_only kind.Ring v i e = cc
rise_only kind.Alarm v i e = impossible (cc)
rise_only kind.Battery v i e = cc
rise_only kind.Ac v i e = cc

abbrev arisen_if : Result Frame Refusal → Machine → Option Cause
arisen_if (Ok f) m = arisen_as f.kind f.a f.v m
arisen_if (Err r) m = None

abbrev clears_if : Result Frame Refusal → Machine → Bool
clears_if (Ok f) m = clears_as f.kind f.a m
clears_if (Err r) m = false

bits_if : (j : ℕ) (x : Result Frame Refusal) (m : Machine) → bit j (cause (step_if x m).power) ≡ cond (clears_if x m) false (hits j (arisen_if x m) || bit j (cause m.power))
bits_if j (Err r) m = refl
bits_if j (Ok f) m = bits_as j f.kind f.a f.v m

bits_step : (j : ℕ) (m : Machine) (l : Line) → bit j (cause (step m l).power) ≡ cond (clears_if (decoded l) m) false (hits j (arisen_if (decoded l) m) || bit j (cause m.power))
unfolding step
bits_step j m l = bits_if j (decoded l) m

-- a line clears CAUSE where its frame does
read_taken : (a v : ℕ) (m : Machine) → asleep_at m ≡ false → is_ok (outcome_as kind.RegisterRead a v m) ≡ true
read_taken a v m awake = grind (arith, nat_tests)

read_awake : (a v : ℕ) (m : Machine) → is_ok (outcome_as kind.RegisterRead a v m) ≡ true → asleep_at m ≡ false
read_awake a v m ok = grind (arith, nat_tests)

clears_frame : (k : Kind) (a v : ℕ) (m : Machine) → clears_as k a m ≡ true → (k ≡ kind.Reset) ⊎ ((k ≡ kind.RegisterRead) × (a ≡ 0x05) × (asleep_at m ≡ false))
clears_frame kind.Reset a v m h = inl refl
clears_frame kind.RegisterWrite a v m h = impossible (cc)
clears_frame kind.RegisterRead a v m h =
    let p = and_parts (eqb a 0x05) (not (asleep_at m)) h in
    inr (refl, eqb-true a 0x05 p.0, not-true (asleep_at m) p.1)
clears_frame kind.PageWrite a v m h = impossible (cc)
clears_frame kind.PageRead a v m h = impossible (cc)
clears_frame kind.CpuWrite a v m h = impossible (cc)
clears_frame kind.CpuRead a v m h = impossible (cc)
clears_frame kind.Tick a v m h = impossible (cc)
clears_frame kind.Activity a v m h = impossible (cc)
clears_frame kind.Ext a v m h = impossible (cc)
clears_frame kind.Ring a v m h = impossible (cc)
clears_frame kind.Alarm a v m h = impossible (cc)
clears_frame kind.Battery a v m h = impossible (cc)
clears_frame kind.Ac a v m h = impossible (cc)

-- the facts of a line by what it is decoded to
signal_from : (m : Machine) (l : Line) (f : Frame) → decoded l ≡ Ok f → signal m l ≡ signal_as f.kind f.v
signal_from m l f e = signal_is m l ∙ ap signal_if e

outcome_from : (m : Machine) (l : Line) (f : Frame) → decoded l ≡ Ok f → outcome m l ≡ outcome_as f.kind f.a f.v m
unfolding outcome
outcome_from m l f e = ap (λ (d : Result Frame Refusal). outcome_if d m) e

outcome_bad : (m : Machine) (l : Line) (r : Refusal) → decoded l ≡ Err r → outcome m l ≡ Err r
unfolding outcome
outcome_bad m l r e = ap (λ (d : Result Frame Refusal). outcome_if d m) e

clears_from : (m : Machine) (l : Line) (d : Result Frame Refusal) → decoded l ≡ d → clears_if d m ≡ true → Clears m l
clears_from m l (Err r) e h = impossible (cc)
clears_from m l (Ok f) e h =
    let o = of_line l f e in
    elim (clears_frame f.kind f.a f.v m h) [
      | inl k ↦ inl (signal_from m l f e ∙ ap (λ x. signal_as x f.v) k)
      | inr q ↦ inr (record {
        taken = ap is_ok (outcome_from m l f e) ∙ ap (λ x. is_ok (outcome_as x f.a f.v m)) q.0 ∙ read_taken f.a f.v m q.2;
        kind = sym o.kind_is ∙ ap kind_number q.0;
        index = sym o.a_is ∙ q.1;
      })
    ]

clears_to : (m : Machine) (l : Line) (d : Result Frame Refusal) → decoded l ≡ d → Clears m l → clears_if d m ≡ true
clears_to m l (Err r) e (inl s) = impossible (let t = sym (signal_is m l ∙ ap signal_if e) ∙ s in cc)
clears_to m l (Err r) e (inr c) = impossible (let t = sym (ap is_ok (outcome_bad m l r e)) ∙ c.taken in cc)
clears_to m l (Ok f) e (inl s) = ap (λ k. clears_as k f.a m) (giver f.kind kind.Reset f.v sig.reset (sym (signal_from m l f e) ∙ s) refl (λ x. impossible (cc)))
clears_to m l (Ok f) e (inr c) =
    let o = of_line l f e in
    let k = same_kind f.kind kind.RegisterRead (o.kind_is ∙ c.kind) in
    let awake = read_awake f.a f.v m (ap (λ x. is_ok (outcome_as x f.a f.v m)) (sym k) ∙ sym (ap is_ok (outcome_from m l f e)) ∙ c.taken) in
    ap (λ x. clears_as x f.a m) k
    ∙ and_from (eqb f.a 0x05) (not (asleep_at m)) (eq-eqb f.a 0x05 (o.a_is ∙ c.index)) (not_from_false (asleep_at m) awake)

-- what the machine remembers of the inputs, by the list
record Remembers (first : Machine) (ls : List Line) : Type 0 where
  ext_is : (after first ls).power.ext ≡ level sig.ext (signals first ls)
  battery_is : (after first ls).power.battery ≡ level sig.battery (signals first ls)
  ac_is : (after first ls).power.ac ≡ level sig.ac (signals first ls)
  low_is : (after first ls).power.low ≡ (inputs_after (signals first ls)).low

remembers : (first : Machine) → New first → (ls : List Line) → Remembers first ls
remembers first new ls =
    let agree = inputs_agree first new.calm ls in
    let es = signals first ls in
    record {
      ext_is = ap (λ (x : Inputs). x.ext) agree ∙ level_agrees sig.ext es;
      battery_is = ap (λ (x : Inputs). x.battery) agree ∙ level_agrees sig.battery es;
      ac_is = ap (λ (x : Inputs). x.ac) agree ∙ level_agrees sig.ac es;
      low_is = ap (λ (x : Inputs). x.low) agree;
    }

violates_which : (r : Refusal) → is_violation r ≡ true → (r ≡ refusal.PageReadOnly) ⊎ (r ≡ refusal.WriteProtected)
violates_which refusal.NotAFrame e = impossible (cc)
violates_which refusal.UnknownKind e = impossible (cc)
violates_which refusal.UnusedFieldNotZero e = impossible (cc)
violates_which refusal.ValueTooLarge e = impossible (cc)
violates_which refusal.IndexTooLarge e = impossible (cc)
violates_which refusal.Asleep e = impossible (cc)
violates_which refusal.RegisterNotWritable e = impossible (cc)
violates_which refusal.PageNotMapped e = impossible (cc)
violates_which refusal.PageReadOnly e = inl refl
violates_which refusal.SocketUnpowered e = impossible (cc)
violates_which refusal.NoSuchPlace e = impossible (cc)
violates_which refusal.WriteProtected e = inr refl
violates_which refusal.CausePending e = impossible (cc)

violates_outcome : (o : Result ℕ Refusal) → violates o ≡ true → (o ≡ Err refusal.PageReadOnly) ⊎ (o ≡ Err refusal.WriteProtected)
violates_outcome (Ok v) e = impossible (cc)
violates_outcome (Err r) e =
    elim (violates_which r e) [
      | inl q ↦ inl (ap (λ (x : Refusal). Err x) q)
      | inr q ↦ inr (ap (λ (x : Refusal). Err x) q)
    ]

activity_taken : (a v : ℕ) (m : Machine) → is_ok (outcome_as kind.Activity a v m) ≡ true
activity_taken a v m = refl

-- a cause that arises by a frame arises on the line
line_from : (first : Machine) → New first → (l : Line) (ls : List Line) (f : Frame) (c : Cause) → decoded l ≡ Ok f → ByFrame c f.kind f.a f.v (after first ls) → Arises c first l ls
line_from first new l ls f is.Doze e (k, state, last, low_ac, clear) =
    (record { ticks = signal_from (after first ls) l f e ∙ ap (λ x. signal_as x f.v) k; state = state; last = last }, sym (remembers first new ls).ac_is ∙ low_ac, clear)
line_from first new l ls f is.Sleep e (k, state, last, clear) =
    (record { ticks = signal_from (after first ls) l f e ∙ ap (λ x. signal_as x f.v) k; state = state; last = last }, clear)
line_from first new l ls f is.Suspend e (k, state, last, clear) =
    (record { ticks = signal_from (after first ls) l f e ∙ ap (λ x. signal_as x f.v) k; state = state; last = last }, clear)
line_from first new l ls f is.Ext e (k, up, was, two_low, awake, clear) =
    let r = remembers first new ls in
    let rise = signal_from (after first ls) l f e ∙ ap (λ x. signal_as x f.v) k ∙ ap (λ b. sig.gives sig.ext b) up in
    (((rise, sym r.ext_is ∙ was), low_settled (signals first ls) (sym r.low_is ∙ two_low)), awake, clear)
line_from first new l ls f is.Battery e (k, up, was, awake, clear) =
    let rise = signal_from (after first ls) l f e ∙ ap (λ x. signal_as x f.v) k ∙ ap (λ b. sig.gives sig.battery b) up in
    ((rise, sym (remembers first new ls).battery_is ∙ was), awake, clear)
line_from first new l ls f is.Violation e (k, refused, clear) =
    let m = after first ls in
    (subst (λ (o : Result ℕ Refusal). (o ≡ Err refusal.PageReadOnly) ⊎ (o ≡ Err refusal.WriteProtected)) (sym (outcome_from m l f e)) (violates_outcome (outcome_as f.kind f.a f.v m) refused), clear)
line_from first new l ls f is.Activity e (k, heard, in_state) =
    let m = after first ls in
    let o = of_line l f e in (
      record {
        taken = ap is_ok (outcome_from m l f e) ∙ ap (λ x. is_ok (outcome_as x f.a f.v m)) k ∙ activity_taken f.a f.v m;
        kind = sym o.kind_is ∙ ap kind_number k;
        not_ignored = ap (λ n. bit n (m.power.table 0x07)) (sym o.a_is) ∙ heard;
      },
      in_state,
    )

violated_kind : (k : Kind) (a v : ℕ) (m : Machine) (r : Refusal) → outcome_as k a v m ≡ Err r → is_violation r ≡ true → k ≡ kind.CpuWrite
violated_kind kind.Reset a v m r e h = impossible (cc)
violated_kind kind.RegisterWrite a v m r e h = absurd (both_ways (is_violation r) (write_plain a v m.power r (no_value_err (write_answer a v m.power) r e)) h)
violated_kind kind.RegisterRead a v m r e h = absurd (both_ways (is_violation r) (read_plain a m.power r e) h)
violated_kind kind.PageWrite a v m r e h = absurd (both_ways (is_violation r) (asleep_only m 0 r e).1 h)
violated_kind kind.PageRead a v m r e h = absurd (both_ways (is_violation r) (asleep_only m (m.words a) r e).1 h)
violated_kind kind.CpuWrite a v m r e h = refl
violated_kind kind.CpuRead a v m r e h = impossible (grind (arith, nat_tests))
violated_kind kind.Tick a v m r e h = impossible (cc)
violated_kind kind.Activity a v m r e h = impossible (cc)
violated_kind kind.Ext a v m r e h = impossible (cc)
violated_kind kind.Ring a v m r e h = impossible (cc)
violated_kind kind.Alarm a v m r e h = impossible (cc)
violated_kind kind.Battery a v m r e h = impossible (cc)
violated_kind kind.Ac a v m r e h = impossible (cc)

-- and the other way
line_to : (first : Machine) → New first → (l : Line) (ls : List Line) (f : Frame) (c : Cause) → decoded l ≡ Ok f → Arises c first l ls → ByFrame c f.kind f.a f.v (after first ls)
line_to first new l ls f is.Doze e (out, low_ac, clear) =
    (giver f.kind kind.Tick f.v sig.tick (sym (signal_from (after first ls) l f e) ∙ out.ticks) refl (λ x. impossible (cc)), out.state, out.last, (remembers first new ls).ac_is ∙ low_ac, clear)
line_to first new l ls f is.Sleep e (out, clear) =
    (giver f.kind kind.Tick f.v sig.tick (sym (signal_from (after first ls) l f e) ∙ out.ticks) refl (λ x. impossible (cc)), out.state, out.last, clear)
line_to first new l ls f is.Suspend e (out, clear) =
    (giver f.kind kind.Tick f.v sig.tick (sym (signal_from (after first ls) l f e) ∙ out.ticks) refl (λ x. impossible (cc)), out.state, out.last, clear)
line_to first new l ls f is.Ext e (press, awake, clear) =
    let r = remembers first new ls in
    let given = sym (signal_from (after first ls) l f e) ∙ press.0.0 in
    (giver f.kind kind.Ext f.v (sig.gives sig.ext true) given refl (λ x. impossible (cc)), rise_only f.kind f.v sig.ext given, r.ext_is ∙ press.0.1, r.low_is ∙ settled_low (signals first ls) press.1, awake, clear)
line_to first new l ls f is.Battery e (rise, awake, clear) =
    let given = sym (signal_from (after first ls) l f e) ∙ rise.0 in
    (giver f.kind kind.Battery f.v (sig.gives sig.battery true) given refl (λ x. impossible (cc)), rise_only f.kind f.v sig.battery given, (remembers first new ls).battery_is ∙ rise.1, awake, clear)
line_to first new l ls f is.Violation e (inl o, clear) =
    let m = after first ls in
    let x = sym (outcome_from m l f e) ∙ o in
    (violated_kind f.kind f.a f.v m refusal.PageReadOnly x refl, ap violates x, clear)
line_to first new l ls f is.Violation e (inr o, clear) =
    let m = after first ls in
    let x = sym (outcome_from m l f e) ∙ o in
    (violated_kind f.kind f.a f.v m refusal.WriteProtected x refl, ap violates x, clear)
line_to first new l ls f is.Activity e (active, in_state) =
    let m = after first ls in
    let o = of_line l f e in
    (same_kind f.kind kind.Activity (o.kind_is ∙ active.kind), ap (λ n. bit n (m.power.table 0x07)) o.a_is ∙ active.not_ignored, in_state)

-- a line that is no well-formed frame gives no cause
bad_line : (first : Machine) (l : Line) (ls : List Line) (r : Refusal) (c : Cause) → decoded l ≡ Err r → Arises c first l ls → ◌≡◌ {A = ℕ} 0 1
bad_line first l ls r is.Doze e (out, low_ac, clear) = let t = sym (signal_is (after first ls) l ∙ ap signal_if e) ∙ out.ticks in cc
bad_line first l ls r is.Sleep e (out, clear) = let t = sym (signal_is (after first ls) l ∙ ap signal_if e) ∙ out.ticks in cc
bad_line first l ls r is.Suspend e (out, clear) = let t = sym (signal_is (after first ls) l ∙ ap signal_if e) ∙ out.ticks in cc
bad_line first l ls r is.Ext e (press, awake, clear) = let t = sym (signal_is (after first ls) l ∙ ap signal_if e) ∙ press.0.0 in cc
bad_line first l ls r is.Battery e (rise, awake, clear) = let t = sym (signal_is (after first ls) l ∙ ap signal_if e) ∙ rise.0 in cc
bad_line first l ls r is.Violation e (inl o, clear) =
    let t : Err r ≡ Err refusal.PageReadOnly = sym (outcome_bad (after first ls) l r e) ∙ o in
    let same : r ≡ refusal.PageReadOnly = cc in
    let f = decoded_plain l r e in
    let y = ap is_violation same in cc
bad_line first l ls r is.Violation e (inr o, clear) =
    let t : Err r ≡ Err refusal.WriteProtected = sym (outcome_bad (after first ls) l r e) ∙ o in
    let same : r ≡ refusal.WriteProtected = cc in
    let f = decoded_plain l r e in
    let y = ap is_violation same in cc
bad_line first l ls r is.Activity e (active, in_state) = let t = sym (ap is_ok (outcome_bad (after first ls) l r e)) ∙ active.taken in cc

arises_from : (first : Machine) → New first → (l : Line) (ls : List Line) (c : Cause) (d : Result Frame Refusal) → decoded l ≡ d → hits (position c) (arisen_if d (after first ls)) ≡ true → Arises c first l ls
arises_from first new l ls c (Err r) e h = impossible (cc)
arises_from first new l ls c (Ok f) e h = line_from first new l ls f c e (from_frame c f.kind f.a f.v (after first ls) h)

arises_to : (first : Machine) → New first → (l : Line) (ls : List Line) (c : Cause) (d : Result Frame Refusal) → decoded l ≡ d → Arises c first l ls → hits (position c) (arisen_if d (after first ls)) ≡ true
arises_to first new l ls c (Err r) e a = impossible (bad_line first l ls r c e a)
arises_to first new l ls c (Ok f) e a = to_frame c f.kind f.a f.v (after first ls) (line_to first new l ls f c e a)

-- a frame by which a cause arises does not clear CAUSE
apart : (j : ℕ) (k : Kind) (a v : ℕ) (m : Machine) → hits j (arisen_as k a v m) ≡ true → clears_as k a m ≡ false
apart j kind.Reset a v m h = impossible (cc)
apart j kind.RegisterWrite a v m h = refl
apart j kind.RegisterRead a v m h = impossible (cc)
apart j kind.PageWrite a v m h = refl
apart j kind.PageRead a v m h = refl
apart j kind.CpuWrite a v m h = refl
apart j kind.CpuRead a v m h = refl
apart j kind.Tick a v m h = refl
apart j kind.Activity a v m h = refl
apart j kind.Ext a v m h = refl
apart j kind.Ring a v m h = refl
apart j kind.Alarm a v m h = refl
apart j kind.Battery a v m h = refl
apart j kind.Ac a v m h = refl

apart_if : (j : ℕ) (d : Result Frame Refusal) (m : Machine) → hits j (arisen_if d m) ≡ true → clears_if d m ≡ false
apart_if j (Err r) m h = refl
apart_if j (Ok f) m h = apart j f.kind f.a f.v m h

-- what a bit that is set after a line says
set_after : (clear hit was : Bool) → cond clear false (hit || was) ≡ true → (clear ≡ false) × ((hit ≡ true) ⊎ (was ≡ true))
set_after true hit was e = impossible (cc)
set_after false hit was e = (refl, or_cases hit was e)

or_true : (x y : Bool) → y ≡ true → (x || y) ≡ true
or_true true y e = refl
or_true false y e = e

pub pending_from : (first : Machine) → New first → (c : Cause) (ls : List Line) → bit (position c) (cause (after first ls).power) ≡ true → Pending c first ls
pending_from first new c [] h = absurd (both_ways (bit (position c) (cause first.power)) (ap (bit (position c)) new.no_cause ∙ zero_bit (position c)) h)
pending_from first new c (l ∷ ls) h =
    let m = after first ls in
    let s = set_after (clears_if (decoded l) m) (hits (position c) (arisen_if (decoded l) m)) (bit (position c) (cause m.power)) (sym (bits_step (position c) m l) ∙ h) in
    elim s.1 [
      | inl hit ↦ record { newer = []; at = l; older = ls; split = refl; arises = arises_from first new l ls c (decoded l) refl hit; uncleared = tt }
      | inr was ↦
          let p = pending_from first new c ls was in
          record {
            newer = l ∷ p.newer;
            at = p.at;
            older = p.older;
            split = ap (λ (x : List Line). l ∷ x) p.split;
            arises = p.arises;
            uncleared = (λ clears. both_ways (clears_if (decoded l) m) s.0 (clears_to m l (decoded l) refl (subst (λ (x : List Line). Clears (after first x) l) (sym p.split) clears)), p.uncleared);
          }
    ]

not_set : (b : Bool) → (b ≡ true → ⊥) → b ≡ false
not_set true n = absurd (n refl)
not_set false n = refl

still_pending : (first : Machine) → New first → (c : Cause) (newer : List Line) (at : Line) (older : List Line) → Arises c first at older → Uncleared first newer (at ∷ older)
    → bit (position c) (cause (after first (newer ++ (at ∷ older))).power) ≡ true
still_pending first new c [] at older arises u =
    let m = after first older in
    let hit = arises_to first new at older c (decoded at) refl arises in
    bits_step (position c) m at
    ∙ cond-false (clears_if (decoded at) m) false (hits (position c) (arisen_if (decoded at) m) || bit (position c) (cause m.power)) (apart_if (position c) (decoded at) m hit)
    ∙ ap (λ b. b || bit (position c) (cause m.power)) hit
still_pending first new c (l ∷ newer) at older arises u =
    let m = after first (newer ++ (at ∷ older)) in
    let kept = not_set (clears_if (decoded l) m) (λ h. u.0 (clears_from m l (decoded l) refl h)) in
    bits_step (position c) m l
    ∙ cond-false (clears_if (decoded l) m) false (hits (position c) (arisen_if (decoded l) m) || bit (position c) (cause m.power)) kept
    ∙ or_true (hits (position c) (arisen_if (decoded l) m)) (bit (position c) (cause m.power)) (still_pending first new c newer at older arises u.1)

pub pending_to : (first : Machine) → New first → (c : Cause) (ls : List Line) → Pending c first ls → bit (position c) (cause (after first ls).power) ≡ true
pending_to first new c ls p =
    ap (λ (x : List Line). bit (position c) (cause (after first x).power)) p.split ∙ still_pending first new c p.newer p.at p.older p.arises p.uncleared

-- no cause has bit 7
no_seven : (o : Option Cause) → hits 7 o ≡ false
no_seven None = refl
no_seven (Some is.Doze) = refl
no_seven (Some is.Sleep) = refl
no_seven (Some is.Suspend) = refl
no_seven (Some is.Ext) = refl
no_seven (Some is.Battery) = refl
no_seven (Some is.Violation) = refl
no_seven (Some is.Activity) = refl

all_false : (clear hit was : Bool) → hit ≡ false → was ≡ false → cond clear false (hit || was) ≡ false
all_false true hit was e f = refl
all_false false true was e f = impossible (cc)
all_false false false was e f = f

pub seven_clear : (first : Machine) → New first → (ls : List Line) → bit 7 (cause (after first ls).power) ≡ false
seven_clear first new [] = ap (bit 7) new.no_cause ∙ zero_bit 7
seven_clear first new (l ∷ ls) =
    let m = after first ls in
    bits_step 7 m l ∙ all_false (clears_if (decoded l) m) (hits 7 (arisen_if (decoded l) m)) (bit 7 (cause m.power)) (no_seven (arisen_if (decoded l) m)) (seven_clear first new ls)

-- what a read of CAUSE reads
cause_read : (a v value : ℕ) (m : Machine) → a ≡ 0x05 → outcome_as kind.RegisterRead a v m ≡ Ok value → value ≡ cause m.power
cause_read a v value m five_it e = grind (arith, nat_tests)

cause_read_if : (d : Result Frame Refusal) (m : Machine) (k a v value : ℕ) → ((f : Frame) → d ≡ Ok f → OfFields f k a v) → outcome_if d m ≡ Ok value → k ≡ 0x02 → a ≡ 0x05 → value ≡ cause m.power
cause_read_if (Err r) m k a v value of e kt at = impossible (cc)
cause_read_if (Ok f) m k a v value of e kt at =
    let o = of f refl in
    let kind_is = same_kind f.kind kind.RegisterRead (o.kind_is ∙ kt) in
    cause_read f.a f.v value m (o.a_is ∙ at) (subst (λ (x : Kind). outcome_as x f.a f.v m ≡ Ok value) kind_is e)

pub cause_law : (first : Machine) → New first → (ls : List Line) (l : Line) (value : ℕ) → outcome (after first ls) l ≡ Ok value → ReadsCause (after first ls) l → CauseLaw first ls value
unfolding outcome
cause_law first new ls l value e reads =
    let m = after first ls in
    let is_cause = cause_read_if (decoded l) m (kind_field l) (a_field l) (v_field l) value (of_line l) e reads.kind reads.index in
    record {
      shown_only = λ c h. pending_from first new c ls (ap (bit (position c)) (sym is_cause) ∙ h);
      shown_always = λ c p. ap (bit (position c)) is_cause ∙ pending_to first new c ls p;
      no_other = ap (bit 7) is_cause ∙ seven_clear first new ls;
    }
