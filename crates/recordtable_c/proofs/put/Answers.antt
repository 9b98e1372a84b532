use Rattle.std.proofs.Common.{◌++◌, take, drop}
use Rattle.recordtable_c.proofs.Numbers.{copied}
use Rattle.recordtable_c.proofs.put.Goals as goal

pub returns : goal.returns
returns c = rw c.copy_from_slice.ensures.after (copied _ _ _ c.min-n.ensures)
