use Rattle.std.proofs.Common.{sym, ap, ◌∙◌}
use Rattle.rules.specs.Step.{done_by}
use Rattle.frames.specs.Frames.{frame_of}
use Rattle.machine.specs.View.{view}
use Rattle.frames.specs.declared.command.Command.{Command}
use Rattle.machine.proofs.engine.Engine.obey.Goals as goal

pub returns-in-RegisterRead-clause-after : goal.returns-in-RegisterRead-clause-after
returns-in-RegisterRead-clause-after g c =
    let start = view g.S.Sockets.meaning c.args.self.now in
    c.register_read.ensures.after ∙ ap (λ (k : Command). done_by (frame_of k) start) (sym c.in-RegisterRead.is)
