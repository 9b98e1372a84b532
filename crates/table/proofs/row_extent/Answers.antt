use Rattle.table.proofs.Columns.{extent_entry}
use Rattle.table.proofs.row_extent.Goals as goal

pub returns : goal.returns
returns c = extent_entry c.number.ensures
