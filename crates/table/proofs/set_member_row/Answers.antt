use Rattle.table.proofs.Leaves.{member_row_is}
use Rattle.table.proofs.set_member_row.Goals as goal

pub returns : goal.returns
returns c = record { with = λ d v. record { run = λ t h. member_row_is h c.set_first.ensures } }
