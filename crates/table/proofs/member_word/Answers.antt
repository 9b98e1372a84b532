use Rattle.table.proofs.Columns.{member_entry}
use Rattle.table.proofs.member_word.Goals as goal

pub returns : goal.returns
returns c = member_entry c.number.ensures c.requires
