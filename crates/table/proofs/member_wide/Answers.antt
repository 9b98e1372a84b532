use Rattle.table.proofs.Columns.{place_entry}
use Rattle.table.proofs.member_wide.Goals as goal

pub returns : goal.returns
returns c = place_entry c.number.ensures c.requires
