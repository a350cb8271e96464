-- The power unit: what it holds, and how it enters a state.
use Rattle.std.specs.Prelude.{ℕ, ◌%◌, Bool, false, cond}
use Rattle.registers.specs.Registers.{reset_table, stored}
use Rattle.registers.specs.States.{asleep, outputs_in, idle_in}
use Rattle.registers.specs.declared.state.State.{State}
use Rattle.registers.specs.declared.state.State.TheVariants.{On}

-- `table` holds what the registers store, of which 00h and 0Fh are not shown; `low` counts the low samples of EXT, `edges` the ring edges;
-- the last four are the remembered levels
pub record Power : Type 0 where
  pub state : State
  pub table : ℕ → ℕ
  pub idle : ℕ
  pub low : ℕ
  pub edges : ℕ
  pub ext : Bool
  pub ring : Bool
  pub battery : Bool
  pub ac : Bool

abbrev pub outputs : Power → ℕ
outputs u = outputs_in u.state u.table

abbrev pub mask : Power → ℕ
mask u = u.table 0x04

abbrev pub cause : Power → ℕ
cause u = u.table 0x05

-- D2-D0 of WAKE
abbrev pub ring_count : Power → ℕ
ring_count u = u.table 0x06 % 8

-- a register's value stored
abbrev pub put : ℕ → ℕ → Power → Power
put i v u = record {
  state = u.state;
  table = stored u.table i v;
  idle = u.idle;
  low = u.low;
  edges = u.edges;
  ext = u.ext;
  ring = u.ring;
  battery = u.battery;
  ac = u.ac;
}

-- the idle counter set
abbrev pub counting : ℕ → Power → Power
counting n u = record {
  state = u.state;
  table = u.table;
  idle = n;
  low = u.low;
  edges = u.edges;
  ext = u.ext;
  ring = u.ring;
  battery = u.battery;
  ac = u.ac;
}

-- the idle counter set by the load of the present state
abbrev pub reloaded : Power → Power
reloaded u = counting (idle_in u.state u.table) u

-- a state entered, even if it is the present one: the idle counter is loaded, and in Suspend and Off the ring edges are counted from 0
abbrev pub entered : State → Power → Power
entered s u = record {
  state = s;
  table = u.table;
  idle = idle_in s u.table;
  low = u.low;
  edges = cond (asleep s) 0 u.edges;
  ext = u.ext;
  ring = u.ring;
  battery = u.battery;
  ac = u.ac;
}

-- after a reset, and as made: the table copied, On entered, nothing counted, every level low
abbrev pub reset : Power
reset = record {
  state = On;
  table = reset_table;
  idle = idle_in On reset_table;
  low = 0;
  edges = 0;
  ext = false;
  ring = false;
  battery = false;
  ac = false;
}
