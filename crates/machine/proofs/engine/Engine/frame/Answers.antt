use Rattle.std.proofs.Common.{◌∙◌}
use Rattle.machine.specs.View.{view}
use Rattle.rules.proofs.Laws.{laws_hold}
use Rattle.rules.proofs.Replies.{answer_by, step_by}
use Rattle.machine.proofs.engine.Engine.frame.Goals as goal

pub returns : goal.returns
returns g c =
    let seen = view g.S.Sockets.meaning in
    let l = c.args.line.now in
    let start = seen c.args.self.now in
    let said = c.reply.ensures.answer ∙ answer_by start l _ c.decode.ensures in
    let left = c.reply.ensures.after ∙ step_by start l _ c.decode.ensures in
    record { answer = said; after = left; laws = laws_hold start (seen c.reply.new.self) l c.reply.result said left }
