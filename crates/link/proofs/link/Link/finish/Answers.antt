use Rattle.rules.proofs.Laws.{all_lawful}
use Rattle.std.proofs.Common.{rules}
use Rattle.link.specs.Stream.{unfinished}
use Rattle.link.proofs.Steps.{finish_machine, finish_says, some_held}
use Rattle.link.proofs.link.Link.finish.Goals as goal

pub returns-clause-machine : goal.returns-clause-machine
returns-clause-machine g c =
    let some = some_held c.args.self.now.held (search rules) in
    λ first bytes s. finish_machine first _ _ bytes _ (unfinished bytes) some s.machine_is s.held_is c.end_line.ensures.engine

pub returns-clause-says : goal.returns-clause-says
returns-clause-says g c =
    let some = some_held c.args.self.now.held (search rules) in
    λ first bytes s. finish_says first _ bytes _ (unfinished bytes) c.end_line.result some s.machine_is s.held_is c.end_line.ensures.answer

pub returns-clause-laws : goal.returns-clause-laws
returns-clause-laws g c = λ ram rom card_a card_b bytes s. all_lawful ram rom card_a card_b _

pub returns-then-is_empty-clause-laws : goal.returns-then-is_empty-clause-laws
returns-then-is_empty-clause-laws g c = λ ram rom card_a card_b bytes s. all_lawful ram rom card_a card_b _
