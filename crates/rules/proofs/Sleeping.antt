-- What a frame does in Suspend and Off.
use Rattle.std.proofs.Common.{◌≡◌, ℕ, ◌+◌, Bool, true, false, cond, not, ◌&&◌, eqb, ltb, leb, refl, arith}
use Rattle.std.proofs.lemmas.Bool.Decides.{nat_tests}
use Rattle.registers.specs.States.{asleep}
use Rattle.power.specs.Power.{Power, ring_count}
use Rattle.registers.specs.Registers.{bit}
use Rattle.registers.specs.declared.state.State.TheVariants.{On}
use Rattle.rules.specs.Machine.{Machine}
use Rattle.rules.specs.Step.{done_as}
use Rattle.rules.specs.Signals as sig
use Rattle.rules.specs.Signals.{Input, Signal, signal_as, signal_if}
use Rattle.frames.specs.declared.kind.Kind.{Kind}
use Rattle.frames.specs.declared.kind.Kind.TheVariants as kind

-- whether a signal wakes a unit that is in Suspend or Off, by what the unit has counted
abbrev pub wakes_by : Signal → Power → Bool
wakes_by sig.reset u = true
wakes_by sig.tick u = false
wakes_by (sig.gives sig.ext v) u = v && not u.ext && eqb u.low 2
wakes_by (sig.gives sig.ring v) u = v && not u.ring && ltb 0 (ring_count u) && leb (ring_count u) (u.edges + 1)
wakes_by (sig.gives sig.battery v) u = false
wakes_by (sig.gives sig.ac v) u = false
wakes_by sig.alarm u = bit 3 (u.table 0x06)
wakes_by sig.other u = false

pub state_as : (k : Kind) (a v : ℕ) (m : Machine) → asleep m.power.state ≡ true
    → (done_as k a v m).power.state ≡ cond (wakes_by (signal_as k v) m.power) On m.power.state
state_as kind.Reset a v m z = refl
state_as kind.RegisterWrite a v m z = grind (arith, nat_tests)
state_as kind.RegisterRead a v m z = grind (arith, nat_tests)
state_as kind.PageWrite a v m z = grind (arith, nat_tests)
state_as kind.PageRead a v m z = refl
state_as kind.CpuWrite a v m z = grind (arith, nat_tests)
state_as kind.CpuRead a v m z = refl
state_as kind.Tick a v m z = grind (arith, nat_tests)
state_as kind.Activity a v m z = grind (arith, nat_tests)
state_as kind.Ext a v m z = grind (arith, nat_tests)
state_as kind.Ring a v m z = grind (arith, nat_tests)
state_as kind.Alarm a v m z = grind (arith, nat_tests)
state_as kind.Battery a v m z = grind (arith, nat_tests)
state_as kind.Ac a v m z = refl

-- whether a signal raises the ring line of a unit
abbrev pub rings_by : Signal → Power → Bool
rings_by sig.reset u = false
rings_by sig.tick u = false
rings_by (sig.gives sig.ext v) u = false
rings_by (sig.gives sig.ring v) u = v && not u.ring
rings_by (sig.gives sig.battery v) u = false
rings_by (sig.gives sig.ac v) u = false
rings_by sig.alarm u = false
rings_by sig.other u = false

-- from Suspend or Off to Suspend or Off, a rise of the ring line counts, unless the ring count is 0, which stays as it is
pub edges_as : (k : Kind) (a v : ℕ) (m : Machine) → asleep m.power.state ≡ true → asleep (done_as k a v m).power.state ≡ true
    → (done_as k a v m).power.edges ≡ m.power.edges + cond (rings_by (signal_as k v) m.power && ltb 0 (ring_count m.power)) 1 0
edges_as kind.Reset a v m z y = grind (arith, nat_tests)
edges_as kind.RegisterWrite a v m z y = grind (arith, nat_tests)
edges_as kind.RegisterRead a v m z y = grind (arith, nat_tests)
edges_as kind.PageWrite a v m z y = grind (arith, nat_tests)
edges_as kind.PageRead a v m z y = omega arith
edges_as kind.CpuWrite a v m z y = grind (arith, nat_tests)
edges_as kind.CpuRead a v m z y = omega arith
edges_as kind.Tick a v m z y = grind (arith, nat_tests)
edges_as kind.Activity a v m z y = grind (arith, nat_tests)
edges_as kind.Ext a v m z y = grind (arith, nat_tests)
edges_as kind.Ring a v m z y = grind (arith, nat_tests)
edges_as kind.Alarm a v m z y = grind (arith, nat_tests)
edges_as kind.Battery a v m z y = grind (arith, nat_tests)
edges_as kind.Ac a v m z y = omega arith

pub wake_as : (k : Kind) (a v : ℕ) (m : Machine) → asleep m.power.state ≡ true → asleep (done_as k a v m).power.state ≡ true
    → (done_as k a v m).power.table 0x06 ≡ m.power.table 0x06
wake_as kind.Reset a v m z y = grind (arith, nat_tests)
wake_as kind.RegisterWrite a v m z y = grind (arith, nat_tests)
wake_as kind.RegisterRead a v m z y = grind (arith, nat_tests)
wake_as kind.PageWrite a v m z y = grind (arith, nat_tests)
wake_as kind.PageRead a v m z y = refl
wake_as kind.CpuWrite a v m z y = grind (arith, nat_tests)
wake_as kind.CpuRead a v m z y = refl
wake_as kind.Tick a v m z y = grind (arith, nat_tests)
wake_as kind.Activity a v m z y = grind (arith, nat_tests)
wake_as kind.Ext a v m z y = grind (arith, nat_tests)
wake_as kind.Ring a v m z y = grind (arith, nat_tests)
wake_as kind.Alarm a v m z y = grind (arith, nat_tests)
wake_as kind.Battery a v m z y = grind (arith, nat_tests)
wake_as kind.Ac a v m z y = refl

-- into Suspend or Off the ring edges are counted from 0
pub entry_as : (k : Kind) (a v : ℕ) (m : Machine) → asleep m.power.state ≡ false → asleep (done_as k a v m).power.state ≡ true → (done_as k a v m).power.edges ≡ 0
entry_as kind.Reset a v m z y = refl
entry_as kind.RegisterWrite a v m z y = grind (arith, nat_tests)
entry_as kind.RegisterRead a v m z y = grind (arith, nat_tests)
entry_as kind.PageWrite a v m z y = grind (arith, nat_tests)
entry_as kind.PageRead a v m z y = grind (arith, nat_tests)
entry_as kind.CpuWrite a v m z y = grind (arith, nat_tests)
entry_as kind.CpuRead a v m z y = grind (arith, nat_tests)
entry_as kind.Tick a v m z y = grind (arith, nat_tests)
entry_as kind.Activity a v m z y = grind (arith, nat_tests)
entry_as kind.Ext a v m z y = grind (arith, nat_tests)
entry_as kind.Ring a v m z y = grind (arith, nat_tests)
entry_as kind.Alarm a v m z y = grind (arith, nat_tests)
entry_as kind.Battery a v m z y = grind (arith, nat_tests)
entry_as kind.Ac a v m z y = grind (arith, nat_tests)
