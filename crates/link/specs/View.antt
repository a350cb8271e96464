-- What a link holds of the line that has not ended.
use Rattle.std.specs.Prelude.{ℕ, List}
use Rattle.link.specs.declared.link.Link.{Link}

abbrev pub held : {S : Type 0} → Link S → List ℕ
held l = l.held
