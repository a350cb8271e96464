use Rattle.board.proofs.memory.Memory.new.Goals as goal

pub returns : goal.returns
returns c = (
  c.in_ok-clear_chip.ensures,
  c.in_ok-clear_chip-2.ensures,
  c.in_ok-clear_chip-3.ensures,
  c.in_ok-burnt_chip.ensures.0,
  c.in_ok-burnt_chip.ensures.1,
)
