-- What an engine stands for.
use Rattle.mapper.specs.View.{words}
use Rattle.power.specs.View.{view as power_view}
use Rattle.rules.specs.Machine.{Machine}
use Rattle.machine.specs.Sockets.{Meanings}
use Rattle.machine.specs.declared.engine.Engine.{Engine}

-- the machine that an engine stands for, by what its sockets mean
abbrev pub view : {S : Type 0} → (S → Meanings) → Engine S → Machine
view meaning e = record {
  power = power_view e.power;
  words = words e.pages;
  ram = (meaning e.sockets).ram;
  rom = (meaning e.sockets).rom;
  card_a = (meaning e.sockets).card_a;
  card_b = (meaning e.sockets).card_b;
}
