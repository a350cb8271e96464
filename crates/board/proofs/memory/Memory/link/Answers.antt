use Rattle.std.proofs.Common.{◌∙◌}
use Rattle.board.proofs.Boards.{same_board}
use Rattle.board.proofs.memory.Memory.link.Goals as goal

pub returns-clause-machine : goal.returns-clause-machine
returns-clause-machine c =
    c.assemble.ensures.machine
    ∙ same_board _ _ _ _ _ _ _ _ c.as_mut_slice.ensures.value c.as_mut_slice-2.ensures.value c.as_slice.ensures.value c.as_mut_slice-3.ensures.value
