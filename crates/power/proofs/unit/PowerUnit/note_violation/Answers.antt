use Rattle.std.proofs.Common.{◌≡◌, ℕ, ◌/◌, ◌%◌, false, sym, ap, ◌∙◌}
use Rattle.std.proofs.lemmas.Bool.{cond-false}
use Rattle.registers.specs.States.{asleep}
use Rattle.power.specs.Power.{put}
use Rattle.power.specs.Causes.{raised, noted}
use Rattle.power.specs.View.{view}
use Rattle.power.specs.declared.cause.Cause.TheVariants as cause
use Rattle.power.proofs.unit.PowerUnit.note_violation.Goals as goal

pub returns : goal.returns
returns c =
    let u = view c.args.self.now in
    let a = c.bits-bits.result in
    let low = c.set.ensures in
    let middle = c.set-2.ensures ∙ ap (put 0x0D (a / 0x100 % 0x100)) low in
    let high = c.set-3.ensures ∙ ap (put 0x0E (a / 0x10000 % 0x100)) middle in
    let awake : asleep u.state ≡ false = sym c.asleep.ensures ∙ c.if-asleep.false in
    c.raise.ensures
    ∙ ap (raised cause.Violation) (high ∙ ap (λ (n : ℕ). noted n u) c.bits-bits.ensures)
    ∙ sym (cond-false (asleep u.state) u (raised cause.Violation (noted c.args.address.bits u)) awake)
