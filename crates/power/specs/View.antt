-- The power unit that a value of the program stands for.
use Rattle.std.specs.Prelude.{slice_index}
use Rattle.power.specs.Power.{Power}
use Rattle.power.specs.declared.unit.PowerUnit.{PowerUnit}

abbrev pub view : PowerUnit → Power
view u = record {
  state = u.state;
  table = λ i. slice_index u.registers i;
  idle = u.idle;
  low = u.low;
  edges = u.edges;
  ext = u.ext;
  ring = u.ring;
  battery = u.battery;
  ac = u.ac;
}
