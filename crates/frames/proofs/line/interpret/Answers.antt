use Rattle.std.proofs.Common.{rules}
use Rattle.frames.proofs.Digits.{listed_kind}
use Rattle.frames.proofs.line.interpret.Goals as goal

pub returns : goal.returns
returns c = search (rules, listed_kind)
