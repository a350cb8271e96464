use Rattle.std.proofs.Common.{◌∙◌, rules}
use Rattle.std.proofs.lemmas.Result.{err_from_is_err_and}
use Rattle.frames.proofs.Digits.{decoded_cut, decoded_uncut}
use Rattle.frames.proofs.line.decode.Goals as goal

-- what `ok_or` gives is found by a search, so that it is the fact that fails where another refusal is given
pub returns-in_err-fields : goal.returns-in_err-fields
returns-in_err-fields c =
    let p = err_from_is_err_and c.from_residual.result c.from_residual.ensures.1 in
    rw (p.1, p.2) (decoded_uncut c.args.line.now c.cut.result c.in_err-fields.field-0.0 c.cut.ensures (search rules))

pub returns : goal.returns
returns c = c.interpret.ensures ∙ decoded_cut c.args.line.now c.cut.result c.in_ok-fields.fields c.cut.ensures (search rules)
