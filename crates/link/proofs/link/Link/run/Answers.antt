use Rattle.std.proofs.Common.{[]}
use Rattle.rules.proofs.Laws.{all_lawful}
use Rattle.machine.specs.Sockets.{fresh_over}
use Rattle.link.proofs.Steps.{begins}
use Rattle.link.proofs.link.Link.run.Goals as goal

pub returns-clause-stands : goal.returns-clause-stands
returns-clause-stands g c = c.receive-progress.ensures.received.stands (fresh_over (g.S.Sockets.meaning c.args.sockets)) [] (begins c.new.ensures c.new-link.ensures)

pub returns-clause-says : goal.returns-clause-says
returns-clause-says g c = c.receive-progress.ensures.received.says (fresh_over (g.S.Sockets.meaning c.args.sockets)) [] (begins c.new.ensures c.new-link.ensures)

pub returns-clause-laws : goal.returns-clause-laws
returns-clause-laws g c = all_lawful _ _ _ _ _
