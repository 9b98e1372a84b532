use Rattle.open_lists.proofs.Changed.{released-some, released-none}
use Rattle.open_lists.proofs.release.Goals as goal

pub returns-then-row_count-ne0 : goal.returns-then-row_count-ne0
returns-then-row_count-ne0 g c = released-some g.E.Entries.kind _ c.row_count.ensures c.if-row_count-ne0.true c.rerow.ensures

pub returns-else-row_count-ne0 : goal.returns-else-row_count-ne0
returns-else-row_count-ne0 g c = released-none g.E.Entries.kind _ c.row_count.ensures c.if-row_count-ne0.false
