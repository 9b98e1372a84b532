use Rattle.table.proofs.Columns.{parameter_entry}
use Rattle.table.proofs.parameter_word.Goals as goal

pub returns : goal.returns
returns c = parameter_entry c.number.ensures c.requires
