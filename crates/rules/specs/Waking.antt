-- What ends Suspend and Off, said of the list of lines.
use Rattle.std.specs.Prelude.{◌≡◌, ℕ, ◌+◌, Bool, true, false, cond, not, ◌&&◌, List, [], ◌∷◌, ◌++◌}
use Rattle.registers.specs.States.{asleep}
use Rattle.power.specs.Power.{ring_count}
use Rattle.registers.specs.Registers.{bit}
use Rattle.registers.specs.declared.state.State.TheVariants.{On}
use Rattle.frames.specs.Lines.{Line}
use Rattle.rules.specs.Machine.{Machine}
use Rattle.rules.specs.Step.{after}
use Rattle.rules.specs.Signals.{Input, ring, Signal, reset, tick, gives, alarm, other, signal, signals, same_input, level, Rises, CleanPress}

abbrev pub asleep_at : Machine → Bool
asleep_at m = asleep m.power.state

-- the line led from an awake state into Suspend or Off
abbrev pub Entry : Machine → Line → List Line → Type 0
Entry first l older = (asleep_at (after first older) ≡ false) × (asleep_at (after first (l ∷ older)) ≡ true)

-- after each line of `newer`, which came after `older`, the engine is in Suspend or Off
abbrev pub AsleepThrough : Machine → List Line → List Line → Type 0
AsleepThrough first [] older = Unit {0}
AsleepThrough first (l ∷ newer) older = (asleep_at (after first (l ∷ (newer ++ older))) ≡ true) × AsleepThrough first newer older

-- whether a signal raises an input, after the older ones
abbrev pub raises : Input → Signal → List Signal → Bool
raises i reset es = false
raises i tick es = false
raises i (gives j v) es = same_input i j && (v && not (level i es))
raises i alarm es = false
raises i other es = false

-- how many lines of `newer`, which came after `older`, raise the ring line
abbrev pub ring_rises : Machine → List Line → List Line → ℕ
ring_rises first [] older = 0
ring_rises first (l ∷ newer) older =
    ring_rises first newer older + cond (raises ring (signal (after first (newer ++ older)) l) (signals first (newer ++ older))) 1 0

-- the line is the n-th rise of the ring line since Suspend or Off was entered, n being the ring count, which is not 0
pub record ProgrammedRing (first : Machine) (l : Line) (ls : List Line) : Type 0 where
  pub newer : List Line
  pub entry : Line
  pub older : List Line
  pub split : ls ≡ newer ++ (entry ∷ older)
  pub entered : Entry first entry older
  pub asleep_since : AsleepThrough first newer (entry ∷ older)
  pub rises : Rises ring (signal (after first ls) l) (signals first ls)
  pub counts : ring_count (after first ls).power ≡ 0 → ⊥
  pub nth : ring_rises first newer (entry ∷ older) + 1 ≡ ring_count (after first ls).power

-- what ends Suspend and Off
pub data Wakes (first : Machine) (l : Line) (ls : List Line) : Type 0 where
  by_reset : signal (after first ls) l ≡ reset → Wakes first l ls
  by_press : CleanPress (signal (after first ls) l) (signals first ls) → Wakes first l ls
  by_ring : ProgrammedRing first l ls → Wakes first l ls
  by_alarm : signal (after first ls) l ≡ alarm → bit 3 ((after first ls).power.table 0x06) ≡ true → Wakes first l ls

-- from Suspend and Off the line leads to On exactly when it wakes, and any other line leaves the state as it is
pub record WakeLaw (first : Machine) (ls : List Line) (l : Line) (end : Machine) : Type 0 where
  pub always : asleep_at (after first ls) ≡ true → Wakes first l ls → end.power.state ≡ On
  pub only : asleep_at (after first ls) ≡ true → end.power.state ≡ On → Wakes first l ls
  pub else_same : asleep_at (after first ls) ≡ true → (Wakes first l ls → ⊥) → end.power.state ≡ (after first ls).power.state
