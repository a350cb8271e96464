use Rattle.std.proofs.Common.{◌≡◌, take, ◌∙◌, rules}
use Rattle.terms.specs.Limits.{places}
use Rattle.board.proofs.Boards.{stands_on}
use Rattle.board.proofs.memory.assemble.Goals as goal

pub returns-clause-machine : goal.returns-clause-machine
returns-clause-machine c =
    let even : c.new-3.result.even.bytes.now ≡ take places c.args.even.now = search rules in
    let odd : c.new-3.result.odd.bytes.now ≡ take places c.args.odd.now = search rules in
    let kept : c.protected.result.device.bytes.now ≡ take places c.args.card.now = search rules in
    c.new-7.ensures.machine_is
    ∙ c.new-6.ensures
    ∙ stands_on _ _ _ _ _ _ _ _ _ _ even odd c.new-4.ensures c.protected.ensures.segments c.protected.ensures.flags kept
