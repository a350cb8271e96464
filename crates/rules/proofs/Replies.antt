-- A line is answered by what it is decoded to.
use Rattle.std.proofs.Common.{◌≡◌, Result, ap}
use Rattle.terms.specs.declared.refusal.Refusal.{Refusal}
use Rattle.frames.specs.Lines.{Line}
use Rattle.frames.specs.Decode.{Frame, decoded}
use Rattle.rules.specs.Machine.{Machine}
use Rattle.rules.specs.Step.{outcome_if, step_if, outcome, step, answered, answer}

pub answer_by : (m : Machine) (l : Line) (d : Result Frame Refusal) → d ≡ decoded l → answered (outcome_if d m) (step_if d m) ≡ answer m l
unfolding outcome step answer
answer_by m l d e = ap (λ (x : Result Frame Refusal). answered (outcome_if x m) (step_if x m)) e

pub step_by : (m : Machine) (l : Line) (d : Result Frame Refusal) → d ≡ decoded l → step_if d m ≡ step m l
unfolding step
step_by m l d e = ap (λ (x : Result Frame Refusal). step_if x m) e
