use Rattle.std.proofs.Common.{refl}
use Rattle.frames.specs.Decode.{decoded}
use Rattle.rules.specs.Step.{outcome, step, answer}
use Rattle.examples.proofs.worked_examples.Goals as goal

pub returns : goal.returns
unfolding decoded outcome step answer
returns c = record { count = refl; hold = refl }
