-- Whether a chip has a battery, as its type says it in a definition: `Chip plain` is the type of RAM, `Chip battery` that of backed RAM.
use Rattle.std.specs.Prelude.{ℕ}

abbrev pub plain : ℕ
plain = 0

abbrev pub battery : ℕ
battery = 1
