-- What reaches the machine from outside, as a list of taken lines tells it. Refused lines are no signals.
use Rattle.std.specs.Prelude.{◌≡◌, ℕ, Bool, true, false, cond, List, [], ◌∷◌, ◌++◌, is_ok, Ok, Err, Result, ◌≢◌}
use Rattle.terms.specs.declared.refusal.Refusal.{Refusal}
use Rattle.frames.specs.Lines.{Line}
use Rattle.frames.specs.Decode.{Frame, decoded}
use Rattle.rules.specs.Machine.{Machine}
use Rattle.rules.specs.Step.{outcome, after, high}
use Rattle.frames.specs.declared.kind.Kind.{Kind}
use Rattle.frames.specs.declared.kind.Kind.TheVariants as kind

-- the inputs that have a level
pub data Input : Type 0 where
  ext : Input
  ring : Input
  battery : Input
  ac : Input

pub data Signal : Type 0 where
  reset : Signal
  tick : Signal
  gives : Input → Bool → Signal
  alarm : Signal
  other : Signal

-- the signal of a frame
abbrev pub signal_as : Kind → ℕ → Signal
signal_as kind.Reset v = reset
signal_as kind.RegisterWrite v = other
signal_as kind.RegisterRead v = other
signal_as kind.PageWrite v = other
signal_as kind.PageRead v = other
signal_as kind.CpuWrite v = other
signal_as kind.CpuRead v = other
signal_as kind.Tick v = tick
signal_as kind.Activity v = other
signal_as kind.Ext v = gives ext (high v)
signal_as kind.Ring v = gives ring (high v)
signal_as kind.Alarm v = alarm
signal_as kind.Battery v = gives battery (high v)
signal_as kind.Ac v = gives ac (high v)

abbrev pub signal_if : Result Frame Refusal → Signal
signal_if (Ok f) = signal_as f.kind f.v
signal_if (Err r) = other

-- the signal of a line that the machine m takes
unfoldable pub signal : Machine → Line → Signal
signal m l = cond (is_ok (outcome m l)) (signal_if (decoded l)) other

-- the signals of a list of lines, the newest first, on a machine that began as `first`
abbrev pub signals : Machine → List Line → List Signal
signals first [] = []
signals first (l ∷ older) = signal (after first older) l ∷ signals first older

abbrev pub same_input : Input → Input → Bool
same_input ext ext = true
same_input ext ring = false
same_input ext battery = false
same_input ext ac = false
same_input ring ext = false
same_input ring ring = true
same_input ring battery = false
same_input ring ac = false
same_input battery ext = false
same_input battery ring = false
same_input battery battery = true
same_input battery ac = false
same_input ac ext = false
same_input ac ring = false
same_input ac battery = false
same_input ac ac = true

-- the level that an input was last given since the last reset, or low
abbrev pub level : Input → List Signal → Bool
level i [] = false
level i (reset ∷ older) = false
level i (tick ∷ older) = level i older
level i (gives j v ∷ older) = cond (same_input i j) v (level i older)
level i (alarm ∷ older) = level i older
level i (other ∷ older) = level i older

-- the signal raises the input, after the older ones
abbrev pub Rises : Input → Signal → List Signal → Type 0
Rises i e older = (e ≡ gives i true) × (level i older ≡ false)

-- in `newer`, which came after `older`, there is no tick, no reset and no rise of EXT
abbrev pub Quiet : List Signal → List Signal → Type 0
Quiet [] older = Unit {0}
Quiet (e ∷ newer) older = (e ≢ tick) × (e ≢ reset) × (Rises ext e (newer ++ older) → ⊥) × Quiet newer older

-- after the last reset and the last rise of EXT came two ticks or more, and the last two found EXT low
pub record Settled (es : List Signal) : Type 0 where
  pub newest : List Signal
  pub between : List Signal
  pub before : List Signal
  pub split : es ≡ newest ++ (tick ∷ (between ++ (tick ∷ before)))
  pub quiet_newest : Quiet newest (tick ∷ (between ++ (tick ∷ before)))
  pub quiet_between : Quiet between (tick ∷ before)
  pub last_found_low : level ext (between ++ (tick ∷ before)) ≡ false
  pub first_found_low : level ext before ≡ false

-- a rise of EXT that is a clean press
abbrev pub CleanPress : Signal → List Signal → Type 0
CleanPress e older = Rises ext e older × Settled older
