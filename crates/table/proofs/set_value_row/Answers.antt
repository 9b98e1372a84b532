use Rattle.table.proofs.Leaves.{value_row_is}
use Rattle.table.proofs.set_value_row.Goals as goal

pub returns : goal.returns
returns c = record { with = λ d v. record { run = λ t h. value_row_is h c.set_first.ensures } }
