use Rattle.table.proofs.Columns.{value_entry}
use Rattle.table.proofs.value_word.Goals as goal

pub returns : goal.returns
returns c = value_entry c.number.ensures c.requires
