use Rattle.table.proofs.Columns.{row_entry}
use Rattle.table.proofs.row_word.Goals as goal

pub returns : goal.returns
returns c = row_entry c.number.ensures c.requires
