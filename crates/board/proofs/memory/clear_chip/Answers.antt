use Rattle.std.proofs.lemmas.Result.{IfOk-weaker}
use Rattle.board.proofs.memory.clear_chip.Goals as goal

pub returns : goal.returns
returns c = IfOk-weaker c.vec.result _ _ (λ v items. items (λ y e. e)) c.vec.ensures.items_if_clones_equal
