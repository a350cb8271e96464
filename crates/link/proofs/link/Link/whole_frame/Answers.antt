use Rattle.std.proofs.Common.{◌≡◌, ◌<◌, length, get_or, refl, rules}
use Rattle.link.proofs.Steps.{goes_whole, none_held}
use Rattle.link.proofs.link.Link.whole_frame.Goals as goal

pub returns-then-eq : goal.returns-then-eq
returns-then-eq g c =
    let none = none_held c.args.self.now.held (search rules) in
    let long : 12 < length c.args.rest.now = search rules in
    let ten : get_or c.args.rest.now 12 0 ≡ 0x0A = search rules in
    goes_whole _ _ _ _ c.args.rest.now c.frame_of_digits.result 12 long refl ten none none
    c.frame_of_digits.ensures.answer c.frame_of_digits.ensures.after
