-- What stands in the four sockets, and what becomes of it.
use Rattle.std.specs.Prelude.{ℕ, cond, ◌==◌}
use Rattle.device.specs.Meaning.{Meaning}
use Rattle.rules.specs.Machine.{Machine, fresh}

-- the meanings of four devices
pub record Meanings : Type 0 where
  pub ram : Meaning
  pub rom : Meaning
  pub card_a : Meaning
  pub card_b : Meaning

-- the one of a socket's number: 0 RAM, 1 ROM, 2 card A, 3 card B
abbrev pub of_socket : Meanings → ℕ → Meaning
of_socket d s = cond (s == 0) d.ram (cond (s == 1) d.rom (cond (s == 2) d.card_a d.card_b))

-- another device in one socket
abbrev pub with_socket : ℕ → Meaning → Meanings → Meanings
with_socket s m d = record {
  ram = cond (s == 0) m d.ram;
  rom = cond (s == 1) m d.rom;
  card_a = cond (s == 2) m d.card_a;
  card_b = cond (s == 3) m d.card_b;
}

-- a new machine over the four
abbrev pub fresh_over : Meanings → Machine
fresh_over d = fresh d.ram d.rom d.card_a d.card_b
