use Rattle.std.proofs.Common.{rules}
use Rattle.frames.proofs.Digits.{second_is_none, third_is_none, last_is_none, whole}
use Rattle.frames.proofs.line.cut.Goals as goal

pub returns-in_err-byte-2 : goal.returns-in_err-byte-2
returns-in_err-byte-2 c = search (rules, second_is_none)

pub returns-in_err-word : goal.returns-in_err-word
returns-in_err-word c = search (rules, third_is_none)

pub returns-in_err-word-2 : goal.returns-in_err-word-2
returns-in_err-word-2 c = search (rules, last_is_none)

-- each part by a search of its own, so that it is the fact that fails where a part is another
pub returns : goal.returns
returns c = whole c.args.line.now _ _ _ _ (search rules) (search rules) (search rules) (search rules) (search rules)
