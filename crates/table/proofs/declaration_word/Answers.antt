use Rattle.table.proofs.Columns.{declaration_entry}
use Rattle.table.proofs.declaration_word.Goals as goal

pub returns : goal.returns
returns c = declaration_entry c.number.ensures c.requires
