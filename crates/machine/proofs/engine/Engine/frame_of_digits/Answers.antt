use Rattle.std.proofs.Common.{◌≡◌, Some, None, Result, sym, ap, ◌∙◌, cond, arith}
use Rattle.std.proofs.lemmas.Bool.{cond-true}
use Rattle.terms.specs.declared.refusal.Refusal.{Refusal}
use Rattle.frames.specs.Lines.{Line, is_frame}
use Rattle.frames.specs.Kinds.{kind_of}
use Rattle.frames.specs.Decode.{listed}
use Rattle.frames.specs.Frames.{fields_of, frame_of}
use Rattle.terms.specs.Results.{ok_map}
use Rattle.frames.specs.declared.answer.Answer.{Answer}
use Rattle.frames.specs.declared.command.Command.{Command}
use Rattle.frames.specs.declared.line.Fields.{Fields}
use Rattle.frames.proofs.Digits.{decoded_frame, cut_some}
use Rattle.rules.specs.Machine.{Machine}
use Rattle.rules.specs.Step.{answered, answer, outcome_if, step_if, step}
use Rattle.rules.proofs.Laws.{laws_hold}
use Rattle.rules.proofs.Replies.{answer_by, step_by}
use Rattle.machine.specs.View.{view}
use Rattle.machine.proofs.engine.Engine.frame_of_digits.Goals as goal

-- what the reply to the command of a line's fields is, said of the line
digits_answered : (start : Machine) (l : Line) (fields : Fields) (asked : Result Command Refusal) (r : Answer)
    → Some fields ≡ cond (is_frame l) (Some (fields_of l)) None
    → ok_map frame_of asked ≡ listed (kind_of fields.kind) fields.a fields.v
    → r ≡ answered (outcome_if (ok_map frame_of asked) start) (step_if (ok_map frame_of asked) start)
    → Some r ≡ cond (is_frame l) (Some (answer start l)) None
digits_answered start l fields asked r cuts reads replies =
    ap (λ (x : Answer). Some x) (replies ∙ answer_by start l (ok_map frame_of asked) (reads ∙ decoded_frame l fields cuts))
    ∙ sym (cond-true (is_frame l) (Some (answer start l)) None (cut_some (is_frame l) fields (fields_of l) cuts))

-- by a tactic, so that it is the fact that fails where the reply is not given
pub returns-clause-answer : goal.returns-clause-answer
returns-clause-answer g c = grind (arith, digits_answered)

pub returns-clause-after : goal.returns-clause-after
returns-clause-after g c =
    let start = view g.S.Sockets.meaning c.args.self.now in
    let l = c.args.line.now in
    let fields = c.in_ok-fields.fields in
    c.reply.ensures.after
    ∙ step_by start l _ (c.interpret.ensures ∙ decoded_frame l fields c.in_ok-fields.ensures)
    ∙ sym (cond-true (is_frame l) (step start l) start (cut_some (is_frame l) fields (fields_of l) c.in_ok-fields.ensures))

pub returns-clause-laws : goal.returns-clause-laws
returns-clause-laws g c =
    let seen = view g.S.Sockets.meaning in
    let start = seen c.args.self.now in
    let l = c.args.line.now in
    let asked = c.interpret.ensures ∙ decoded_frame l c.in_ok-fields.fields c.in_ok-fields.ensures in
    laws_hold start (seen c.reply.new.self) l c.reply.result (c.reply.ensures.answer ∙ answer_by start l _ asked) (c.reply.ensures.after ∙ step_by start l _ asked)
