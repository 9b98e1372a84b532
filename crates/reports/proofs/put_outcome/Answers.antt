use borrow.Author.Rules.{rules}
use mathlib.Core.Path.{sym, ap}
use Rattle.entry_points.specs.Answers.{told}
use Rattle.reports.proofs.Outcomes.{table_of, accepted-printed, rejected-printed}
use Rattle.reports.proofs.put_outcome.Goals as goal

pub put_table-requires : goal.put_table-requires
put_table-requires c = table_of _ _ _ _ _ _ _ (ap told c.in-Ok.is) c.requires

pub returns-in-Ok : goal.returns-in-Ok
returns-in-Ok c = accepted-printed _ _ _ _ _ _ _ _ (ap told c.in-Ok.is) c.model_numbered.ensures c.put_table.ensures

pub returns-in-Err : goal.returns-in-Err
returns-in-Err c = rejected-printed _ _ _ _ _ _ _ _ _ _ (ap told c.in-Err.is) (rw c.from.ensures at c.put_refused.ensures)
