use Rattle.table.proofs.Leaves.{parameter_row_is}
use Rattle.table.proofs.set_parameter_row.Goals as goal

pub returns : goal.returns
returns c = record { with = λ d v. record { run = λ t h. parameter_row_is h c.set_first.ensures } }
