use Rattle.std.proofs.Common.{rules}
use Rattle.frames.proofs.Spells.{spelled_by, flag_byte}
use Rattle.frames.proofs.answer.Answer.spell.Goals as goal

-- each pair of digits by a search of its own, so that it is the fact that fails where a pair is another
pub returns : goal.returns
returns c =
    spelled_by c.args.self.now c.two_digits.result c.two_digits-2.result c.two_digits-3.result c.two_digits-4.result c.two_digits-5.result c.two_digits-6.result
    (search rules) (search rules) (search rules) (search rules) (search rules) (search (rules, flag_byte))
