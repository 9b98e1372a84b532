use mathlib.Core.Path.{sym}
use Rattle.definition.specs.Types.{add, equal_row}
use Rattle.table.proofs.Branch.{some!, none! }
use Rattle.table.proofs.Shown.{got! }
use Rattle.type_rows.proofs.add_row.Goals as goal

pub returns-in-Some : goal.returns-in-Some
unfolding add
returns-in-Some c = record { of = λ x e. record { run = λ t h. some! (equal_row t x 0 t.rows) _ _ (sym (c.in-Some.ensures.of t x h e)) (got! h) } }

pub returns-in-None : goal.returns-in-None
unfolding add
returns-in-None c = record { of = λ x e. record { run = λ t h. none! (equal_row t x 0 t.rows) _ _ (sym (c.in-None.ensures.of t x h e)) ((c.push_row.ensures.of x e).run t h) } }
