-- What a tick or an input does in each state.
use Rattle.std.specs.Prelude.{ℕ, ◌+◌, ◌-◌, Bool, false, cond, not, ◌&&◌, ◌==◌, nat_le, nat_lt}
use Rattle.registers.specs.Registers.{bit}
use Rattle.registers.specs.States.{asleep}
use Rattle.power.specs.Power.{Power, mask, ring_count, counting, reloaded, entered}
use Rattle.power.specs.Causes.{raised}
use Rattle.power.specs.declared.cause.Cause.TheVariants as cause
use Rattle.registers.specs.declared.state.State.{State}
use Rattle.registers.specs.declared.state.State.TheVariants.{On, Doze, Sleep, Suspend, Off}
use Rattle.registers.specs.declared.event.Event.{Event}
use Rattle.registers.specs.declared.event.Event.TheVariants as event

-- a tick samples EXT: low adds one low sample, at most two; high makes them none
abbrev pub sampled : Power → Power
sampled u = record {
  state = u.state;
  table = u.table;
  idle = u.idle;
  low = cond u.ext 0 (cond (nat_lt u.low 2) (u.low + 1) 2);
  edges = u.edges;
  ext = u.ext;
  ring = u.ring;
  battery = u.battery;
  ac = u.ac;
}

-- the idle counter stands still in On while AC is high, and in Sleep while its cause is masked
abbrev pub held : State → Power → Bool
held On u = u.ac
held Doze u = false
held Sleep u = bit 2 (mask u)
held Suspend u = false
held Off u = false

-- the idle counter has fallen to 0
abbrev pub expired : State → Power → Power
expired On u = cond (bit 0 (mask u)) (entered Doze u) (raised cause.Doze u)
expired Doze u = cond (bit 1 (mask u)) (entered Sleep u) (raised cause.Sleep u)
expired Sleep u = raised cause.Suspend u
expired Suspend u = u
expired Off u = u

-- a counter above 0 falls by one
abbrev pub counted : Power → Power
counted u =
    cond (nat_lt 0 u.idle && not (held u.state u))
    (cond (u.idle == 1) (expired u.state (counting 0 u)) (counting (u.idle - 1) u))
    u

-- in Doze and Sleep activity enters On where the cause that led there is masked, and is a cause of its own where not
abbrev pub stirred : ℕ → Power → Power
stirred led_here u = cond (bit led_here (mask u)) (entered On u) (raised cause.Activity u)

-- activity from a source that is not ignored
abbrev pub active : State → Power → Power
active On u = reloaded u
active Doze u = stirred 0 u
active Sleep u = stirred 1 u
active Suspend u = u
active Off u = u

-- a clean press
abbrev pub pressed : Power → Power
pressed u = cond (asleep u.state) (entered On u) (raised cause.Ext u)

-- EXT's level taken, and the low samples made none where it rises
abbrev pub with_ext : Bool → Power → Power
with_ext v u = record {
  state = u.state;
  table = u.table;
  idle = u.idle;
  low = cond (v && not u.ext) 0 u.low;
  edges = u.edges;
  ext = v;
  ring = u.ring;
  battery = u.battery;
  ac = u.ac;
}

-- a rise of EXT is a clean press if the low samples are two
abbrev pub ext_given : Bool → Power → Power
ext_given v u = cond (v && not u.ext && u.low == 2) (pressed (with_ext v u)) (with_ext v u)

abbrev pub with_ring : Bool → ℕ → Power → Power
with_ring v n u = record {
  state = u.state;
  table = u.table;
  idle = u.idle;
  low = u.low;
  edges = n;
  ext = u.ext;
  ring = v;
  battery = u.battery;
  ac = u.ac;
}

-- in Suspend and Off a rise of the ring line counts, unless the ring count is 0; the one that reaches the ring count enters On
abbrev pub ring_given : Bool → Power → Power
ring_given v u =
    cond (v && not u.ring && asleep u.state && nat_lt 0 (ring_count u))
    (cond (nat_le (ring_count u) (u.edges + 1)) (entered On (with_ring v 0 u)) (with_ring v (u.edges + 1) u))
    (with_ring v u.edges u)

-- an alarm enters On from Suspend and Off if WAKE D3 enables it
abbrev pub alarmed : Power → Power
alarmed u = cond (asleep u.state && bit 3 (u.table 0x06)) (entered On u) u

abbrev pub with_battery : Bool → Power → Power
with_battery v u = record {
  state = u.state;
  table = u.table;
  idle = u.idle;
  low = u.low;
  edges = u.edges;
  ext = u.ext;
  ring = u.ring;
  battery = v;
  ac = u.ac;
}

-- a rise of the battery warning raises its cause when awake
abbrev pub battery_given : Bool → Power → Power
battery_given v u =
    cond (v && not u.battery && not (asleep u.state)) (raised cause.Battery (with_battery v u)) (with_battery v u)

abbrev pub with_ac : Bool → Power → Power
with_ac v u = record {
  state = u.state;
  table = u.table;
  idle = u.idle;
  low = u.low;
  edges = u.edges;
  ext = u.ext;
  ring = u.ring;
  battery = u.battery;
  ac = v;
}

abbrev pub ticked : Power → Power
ticked u = counted (sampled u)

-- activity from a source; ACTMASK has a bit for each that is ignored
abbrev pub source_given : ℕ → Power → Power
source_given source u = cond (bit source (u.table 0x07)) u (active u.state u)

abbrev pub happened : Event → Power → Power
happened event.Tick u = ticked u
happened (event.Activity source) u = source_given source.number u
happened (event.Ext v) u = ext_given v u
happened (event.Ring v) u = ring_given v u
happened event.Alarm u = alarmed u
happened (event.Battery v) u = battery_given v u
happened (event.Ac v) u = with_ac v u
