-- The machine: a power unit, the words of 64 pages, and the devices of four sockets.
use Rattle.std.specs.Prelude.{ℕ, Bool, cond, not, ◌&&◌, ◌==◌}
use Rattle.device.specs.Meaning.{Meaning, faded}
use Rattle.power.specs.Power.{Power, outputs, reset}
use Rattle.registers.specs.Registers.{bit}
use Rattle.mapper.specs.Translation.{reset_words}

pub record Machine : Type 0 where
  pub power : Power
  pub words : ℕ → ℕ
  pub ram : Meaning
  pub rom : Meaning
  pub card_a : Meaning
  pub card_b : Meaning

-- a new machine over four devices: as after a reset, the devices untouched
abbrev pub fresh : Meaning → Meaning → Meaning → Meaning → Machine
fresh ram rom card_a card_b = record {
  power = reset;
  words = reset_words;
  ram = ram;
  rom = rom;
  card_a = card_a;
  card_b = card_b;
}

abbrev pub with_power : Power → Machine → Machine
with_power u m = record {
  power = u;
  words = m.words;
  ram = m.ram;
  rom = m.rom;
  card_a = m.card_a;
  card_b = m.card_b;
}

abbrev pub with_words : (ℕ → ℕ) → Machine → Machine
with_words w m = record {
  power = m.power;
  words = w;
  ram = m.ram;
  rom = m.rom;
  card_a = m.card_a;
  card_b = m.card_b;
}

-- the device of a socket: 0 RAM, 1 ROM, 2 card A, 3 card B
abbrev pub device : Machine → ℕ → Meaning
device m s = cond (s == 0) m.ram (cond (s == 1) m.rom (cond (s == 2) m.card_a m.card_b))

abbrev pub with_device : ℕ → Meaning → Machine → Machine
with_device s d m = record {
  power = m.power;
  words = m.words;
  ram = cond (s == 0) d m.ram;
  rom = cond (s == 1) d m.rom;
  card_a = cond (s == 2) d m.card_a;
  card_b = cond (s == 3) d m.card_b;
}

-- the power line of a socket, as a bit of the outputs: D1 RAM, D2 ROM, D3 both cards
abbrev pub line : ℕ → ℕ
line s = cond (s == 0) 1 (cond (s == 1) 2 3)

abbrev pub powered : Power → ℕ → Bool
powered u s = bit (line s) (outputs u)

-- a socket's line was 1 in the one outputs and is 0 in the other
abbrev pub fell : ℕ → ℕ → ℕ → Bool
fell before after s = bit (line s) before && not (bit (line s) after)

-- each socket whose line has fallen since the outputs were `before` meets a power loss
abbrev pub settled : ℕ → Machine → Machine
settled before m =
    let now = outputs m.power in record {
      power = m.power;
      words = m.words;
      ram = cond (fell before now 0) (faded m.ram) m.ram;
      rom = cond (fell before now 1) (faded m.rom) m.rom;
      card_a = cond (fell before now 2) (faded m.card_a) m.card_a;
      card_b = cond (fell before now 3) (faded m.card_b) m.card_b;
    }
