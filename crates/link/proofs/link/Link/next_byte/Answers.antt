use Rattle.std.proofs.Common.{refl}
use Rattle.link.proofs.Steps.{goes_end, goes_other}
use Rattle.link.proofs.link.Link.next_byte.Goals as goal

pub returns-then-b-eq10 : goal.returns-then-b-eq10
returns-then-b-eq10 g c =
    goes_end _ _ _ _ c.args.b c.end_line.result c.if-b-eq10.true c.end_line.ensures.engine c.end_line.ensures.held c.end_line.ensures.answer

pub returns : goal.returns
returns g c = goes_other _ _ _ _ c.args.b c.if-b-eq10.false refl c.push.ensures
