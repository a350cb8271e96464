-- What the machine remembers of the signals agrees with the list of them.
use Rattle.std.proofs.Common.{◌≡◌, ℕ, ◌+◌, Bool, true, false, cond, not, ◌&&◌, ltb, List, [], ◌∷◌, is_ok, Ok, Err, Result, sym, refl, ap, ◌∙◌, arith}
use Rattle.std.proofs.lemmas.Bool.Decides.{nat_tests}
use Rattle.terms.specs.declared.refusal.Refusal.{Refusal}
use Rattle.power.specs.Power.{Power}
use Rattle.power.specs.Commands.{write_done, read_done}
use Rattle.power.specs.Inputs.{sampled, counted, source_given, alarmed}
use Rattle.frames.specs.Lines.{Line}
use Rattle.frames.specs.Decode.{Frame, decoded}
use Rattle.rules.specs.Machine.{Machine}
use Rattle.rules.specs.Access.{cpu_written}
use Rattle.rules.specs.Step.{outcome, outcome_as, outcome_if, step, step_if, after, done_as}
use Rattle.rules.specs.Signals as sig
use Rattle.rules.specs.Signals.{Input, Signal, signal_as, signal_if, signal, signals, level}
use Rattle.frames.specs.declared.kind.Kind.{Kind}
use Rattle.frames.specs.declared.kind.Kind.TheVariants as kind

-- of two equal parts a test picks that part
pub cond_same : {X Y : Type 0} (P : X → Y) (b : Bool) (x y : X) (z : Y) → P x ≡ z → P y ≡ z → P (cond b x y) ≡ z
cond_same P true x y z p q = p
cond_same P false x y z p q = q

-- what a power unit remembers of EXT and the other inputs
pub record Inputs : Type 0 where
  pub ext : Bool
  pub ring : Bool
  pub battery : Bool
  pub ac : Bool
  pub low : ℕ

abbrev pub inputs : Power → Inputs
inputs u = record { ext = u.ext; ring = u.ring; battery = u.battery; ac = u.ac; low = u.low }

write_keeps : (i v : ℕ) (u : Power) → inputs (write_done i v u) ≡ inputs u
write_keeps i v u = grind (arith, nat_tests)

read_keeps : (i : ℕ) (u : Power) → inputs (read_done i u) ≡ inputs u
read_keeps i u = grind (arith, nat_tests)

counted_keeps : (u : Power) → inputs (counted u) ≡ inputs u
counted_keeps u = grind (arith, nat_tests)

source_keeps : (s : ℕ) (u : Power) → inputs (source_given s u) ≡ inputs u
source_keeps s u = grind (arith, nat_tests)

alarm_keeps : (u : Power) → inputs (alarmed u) ≡ inputs u
alarm_keeps u = grind (arith, nat_tests)

cpu_keeps : (m : Machine) (a v : ℕ) → inputs (cpu_written m a v).power ≡ inputs m.power
cpu_keeps m a v = grind (arith, nat_tests)

-- how the inputs change by a signal
abbrev pub inputs_by : Signal → Inputs → Inputs
inputs_by sig.reset x = record { ext = false; ring = false; battery = false; ac = false; low = 0 }
inputs_by sig.tick x = record { ext = x.ext; ring = x.ring; battery = x.battery; ac = x.ac; low = cond x.ext 0 (cond (ltb x.low 2) (x.low + 1) 2) }
inputs_by (sig.gives sig.ext v) x = record { ext = v; ring = x.ring; battery = x.battery; ac = x.ac; low = cond (v && not x.ext) 0 x.low }
inputs_by (sig.gives sig.ring v) x = record { ext = x.ext; ring = v; battery = x.battery; ac = x.ac; low = x.low }
inputs_by (sig.gives sig.battery v) x = record { ext = x.ext; ring = x.ring; battery = v; ac = x.ac; low = x.low }
inputs_by (sig.gives sig.ac v) x = record { ext = x.ext; ring = x.ring; battery = x.battery; ac = v; low = x.low }
inputs_by sig.alarm x = x
inputs_by sig.other x = x

inputs_as : (k : Kind) (a v : ℕ) (m : Machine) → inputs (done_as k a v m).power ≡ inputs_by (signal_as k v) (inputs m.power)
inputs_as kind.Reset a v m = refl
inputs_as kind.RegisterWrite a v m = write_keeps a v m.power
inputs_as kind.RegisterRead a v m = read_keeps a m.power
inputs_as kind.PageWrite a v m = cond_same (λ (x : Machine). inputs x.power) _ _ _ _ refl refl
inputs_as kind.PageRead a v m = refl
inputs_as kind.CpuWrite a v m = cond_same (λ (x : Machine). inputs x.power) _ _ _ _ refl (cpu_keeps m a v)
inputs_as kind.CpuRead a v m = refl
inputs_as kind.Tick a v m = counted_keeps (sampled m.power)
inputs_as kind.Activity a v m = source_keeps a m.power
inputs_as kind.Ext a v m = grind (arith, nat_tests)
inputs_as kind.Ring a v m = grind (arith, nat_tests)
inputs_as kind.Alarm a v m = alarm_keeps m.power
inputs_as kind.Battery a v m = grind (arith, nat_tests)
inputs_as kind.Ac a v m = refl

inputs_if : (d : Result Frame Refusal) (m : Machine) → inputs (step_if d m).power ≡ inputs_by (signal_if d) (inputs m.power)
inputs_if (Err r) m = refl
inputs_if (Ok f) m = inputs_as f.kind f.a f.v m

-- a well-formed frame that gives a signal is always taken
signal_taken : (k : Kind) (a v : ℕ) (m : Machine) → cond (is_ok (outcome_as k a v m)) (signal_as k v) sig.other ≡ signal_as k v
signal_taken kind.Reset a v m = refl
signal_taken kind.RegisterWrite a v m = cond_same (λ (x : Signal). x) _ _ _ _ refl refl
signal_taken kind.RegisterRead a v m = cond_same (λ (x : Signal). x) _ _ _ _ refl refl
signal_taken kind.PageWrite a v m = cond_same (λ (x : Signal). x) _ _ _ _ refl refl
signal_taken kind.PageRead a v m = cond_same (λ (x : Signal). x) _ _ _ _ refl refl
signal_taken kind.CpuWrite a v m = cond_same (λ (x : Signal). x) _ _ _ _ refl refl
signal_taken kind.CpuRead a v m = cond_same (λ (x : Signal). x) _ _ _ _ refl refl
signal_taken kind.Tick a v m = refl
signal_taken kind.Activity a v m = refl
signal_taken kind.Ext a v m = refl
signal_taken kind.Ring a v m = refl
signal_taken kind.Alarm a v m = refl
signal_taken kind.Battery a v m = refl
signal_taken kind.Ac a v m = refl

signal_given : (d : Result Frame Refusal) (m : Machine) → cond (is_ok (outcome_if d m)) (signal_if d) sig.other ≡ signal_if d
signal_given (Err r) m = refl
signal_given (Ok f) m = signal_taken f.kind f.a f.v m

pub signal_is : (m : Machine) (l : Line) → signal m l ≡ signal_if (decoded l)
unfolding signal outcome
signal_is m l = signal_given (decoded l) m

inputs_step : (m : Machine) (l : Line) → inputs (step m l).power ≡ inputs_by (signal m l) (inputs m.power)
unfolding step
inputs_step m l = inputs_if (decoded l) m ∙ ap (λ e. inputs_by e (inputs m.power)) (sym (signal_is m l))

-- the inputs that the signals alone lead to
abbrev pub inputs_after : List Signal → Inputs
inputs_after [] = record { ext = false; ring = false; battery = false; ac = false; low = 0 }
inputs_after (e ∷ es) = inputs_by e (inputs_after es)

pub inputs_agree : (first : Machine) → inputs first.power ≡ inputs_after [] → (ls : List Line) → inputs (after first ls).power ≡ inputs_after (signals first ls)
inputs_agree first new [] = new
inputs_agree first new (l ∷ ls) = inputs_step (after first ls) l ∙ ap (inputs_by (signal (after first ls) l)) (inputs_agree first new ls)

-- the levels are those of the list
abbrev pub level_held : Input → Inputs → Bool
level_held sig.ext x = x.ext
level_held sig.ring x = x.ring
level_held sig.battery x = x.battery
level_held sig.ac x = x.ac

pub level_agrees : (i : Input) (es : List Signal) → level_held i (inputs_after es) ≡ level i es
level_agrees sig.ext [] = refl
level_agrees sig.ring [] = refl
level_agrees sig.battery [] = refl
level_agrees sig.ac [] = refl
level_agrees sig.ext (sig.reset ∷ es) = refl
level_agrees sig.ring (sig.reset ∷ es) = refl
level_agrees sig.battery (sig.reset ∷ es) = refl
level_agrees sig.ac (sig.reset ∷ es) = refl
level_agrees sig.ext (sig.tick ∷ es) = level_agrees sig.ext es
level_agrees sig.ring (sig.tick ∷ es) = level_agrees sig.ring es
level_agrees sig.battery (sig.tick ∷ es) = level_agrees sig.battery es
level_agrees sig.ac (sig.tick ∷ es) = level_agrees sig.ac es
level_agrees sig.ext (sig.gives sig.ext v ∷ es) = refl
level_agrees sig.ext (sig.gives sig.ring v ∷ es) = level_agrees sig.ext es
level_agrees sig.ext (sig.gives sig.battery v ∷ es) = level_agrees sig.ext es
level_agrees sig.ext (sig.gives sig.ac v ∷ es) = level_agrees sig.ext es
level_agrees sig.ring (sig.gives sig.ext v ∷ es) = level_agrees sig.ring es
level_agrees sig.ring (sig.gives sig.ring v ∷ es) = refl
level_agrees sig.ring (sig.gives sig.battery v ∷ es) = level_agrees sig.ring es
level_agrees sig.ring (sig.gives sig.ac v ∷ es) = level_agrees sig.ring es
level_agrees sig.battery (sig.gives sig.ext v ∷ es) = level_agrees sig.battery es
level_agrees sig.battery (sig.gives sig.ring v ∷ es) = level_agrees sig.battery es
level_agrees sig.battery (sig.gives sig.battery v ∷ es) = refl
level_agrees sig.battery (sig.gives sig.ac v ∷ es) = level_agrees sig.battery es
level_agrees sig.ac (sig.gives sig.ext v ∷ es) = level_agrees sig.ac es
level_agrees sig.ac (sig.gives sig.ring v ∷ es) = level_agrees sig.ac es
level_agrees sig.ac (sig.gives sig.battery v ∷ es) = level_agrees sig.ac es
level_agrees sig.ac (sig.gives sig.ac v ∷ es) = refl
level_agrees sig.ext (sig.alarm ∷ es) = level_agrees sig.ext es
level_agrees sig.ring (sig.alarm ∷ es) = level_agrees sig.ring es
level_agrees sig.battery (sig.alarm ∷ es) = level_agrees sig.battery es
level_agrees sig.ac (sig.alarm ∷ es) = level_agrees sig.ac es
level_agrees sig.ext (sig.other ∷ es) = level_agrees sig.ext es
level_agrees sig.ring (sig.other ∷ es) = level_agrees sig.ring es
level_agrees sig.battery (sig.other ∷ es) = level_agrees sig.battery es
level_agrees sig.ac (sig.other ∷ es) = level_agrees sig.ac es
