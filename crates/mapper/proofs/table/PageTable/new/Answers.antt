use Rattle.mapper.proofs.Reset.{reset_is}
use Rattle.mapper.proofs.table.PageTable.new.Goals as goal

pub returns : goal.returns
returns c = reset_is
