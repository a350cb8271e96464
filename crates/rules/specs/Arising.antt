-- When each cause arises, and what a read of CAUSE shows, said of the list of lines.
use Rattle.std.specs.Prelude.{◌≡◌, ℕ, true, false, ◌⊎◌, List, [], ◌∷◌, ◌++◌, is_ok, Err}
use Rattle.terms.specs.declared.refusal.Refusal.TheVariants as refusal
use Rattle.power.specs.Power.{mask}
use Rattle.registers.specs.Registers.{bit}
use Rattle.power.specs.Causes.{position}
use Rattle.power.specs.declared.cause.Cause.{Cause}
use Rattle.power.specs.declared.cause.Cause.TheVariants as cause
use Rattle.registers.specs.declared.state.State.{State}
use Rattle.registers.specs.declared.state.State.TheVariants.{On, Doze, Sleep}
use Rattle.frames.specs.Lines.{Line, kind_field, a_field}
use Rattle.rules.specs.Machine.{Machine}
use Rattle.rules.specs.Step.{outcome, after}
use Rattle.rules.specs.Signals as sig
use Rattle.rules.specs.Signals.{signal, signals, level, Rises, CleanPress}
use Rattle.rules.specs.Waking.{asleep_at}

abbrev pub register_read_kind : ℕ
register_read_kind = 0x02

abbrev pub activity_kind : ℕ
activity_kind = 0x11

-- the cause's bit of MASK is clear before the line
abbrev pub Unmasked : Cause → Machine → Type 0
Unmasked c m = bit (position c) (mask m.power) ≡ false

-- a tick brings the idle counter of a state to 0
pub record RunsOut (m : Machine) (l : Line) (s : State) : Type 0 where
  pub ticks : signal m l ≡ sig.tick
  pub state : m.power.state ≡ s
  pub last : m.power.idle ≡ 1

-- activity from a source that ACTMASK does not ignore
pub record Active (m : Machine) (l : Line) : Type 0 where
  pub taken : is_ok (outcome m l) ≡ true
  pub kind : kind_field l ≡ activity_kind
  pub not_ignored : bit (a_field l) (m.power.table 0x07) ≡ false

-- the cause arises on the line l, which came after the lines ls
abbrev pub Arises : Cause → Machine → Line → List Line → Type 0
Arises cause.Doze first l ls =
    let m = after first ls in RunsOut m l On × (level sig.ac (signals first ls) ≡ false) × Unmasked cause.Doze m
Arises cause.Sleep first l ls =
    let m = after first ls in RunsOut m l Doze × Unmasked cause.Sleep m
Arises cause.Suspend first l ls =
    let m = after first ls in RunsOut m l Sleep × Unmasked cause.Suspend m
Arises cause.Ext first l ls =
    let m = after first ls in CleanPress (signal m l) (signals first ls) × (asleep_at m ≡ false) × Unmasked cause.Ext m
Arises cause.Battery first l ls =
    let m = after first ls in Rises sig.battery (signal m l) (signals first ls) × (asleep_at m ≡ false) × Unmasked cause.Battery m
Arises cause.Violation first l ls =
    let m = after first ls in ((outcome m l ≡ Err refusal.PageReadOnly) ⊎ (outcome m l ≡ Err refusal.WriteProtected)) × Unmasked cause.Violation m
Arises cause.Activity first l ls =
    let m = after first ls in
    Active m l × (((m.power.state ≡ Doze) × Unmasked cause.Doze m) ⊎ ((m.power.state ≡ Sleep) × Unmasked cause.Sleep m))

-- the line is a read of CAUSE that is taken
pub record ReadsCause (m : Machine) (l : Line) : Type 0 where
  pub taken : is_ok (outcome m l) ≡ true
  pub kind : kind_field l ≡ register_read_kind
  pub index : a_field l ≡ 0x05

-- a taken reset or a taken read of CAUSE clears it
abbrev pub Clears : Machine → Line → Type 0
Clears m l = (signal m l ≡ sig.reset) ⊎ ReadsCause m l

-- no line of `newer`, which came after `older`, clears CAUSE
abbrev pub Uncleared : Machine → List Line → List Line → Type 0
Uncleared first [] older = Unit {0}
Uncleared first (l ∷ newer) older = (Clears (after first (newer ++ older)) l → ⊥) × Uncleared first newer older

-- the cause arose on some line of the list, after the last read of CAUSE and the last reset
pub record Pending (c : Cause) (first : Machine) (ls : List Line) : Type 0 where
  pub newer : List Line
  pub at : Line
  pub older : List Line
  pub split : ls ≡ newer ++ (at ∷ older)
  pub arises : Arises c first at older
  pub uncleared : Uncleared first newer (at ∷ older)

-- a read of CAUSE that is taken shows exactly the causes that are pending
pub record CauseLaw (first : Machine) (ls : List Line) (value : ℕ) : Type 0 where
  pub shown_only : (c : Cause) → bit (position c) value ≡ true → Pending c first ls
  pub shown_always : (c : Cause) → Pending c first ls → bit (position c) value ≡ true
  pub no_other : bit 7 value ≡ false
