use mathlib.Core.Path.{ap, ◌∙◌}
use Rattle.entry_points.specs.Answers.{told}
use Rattle.recordtable_c.proofs.Numbers.{told-accepted, told-refused}
use Rattle.recordtable_c.proofs.tell.Goals as goal

pub returns-in-Ok : goal.returns-in-Ok
returns-in-Ok c = let both = told-accepted _ _ _ _ (ap told c.in-Ok.is) c.put.ensures in record { value = both.0; answer_after = both.1 }

pub returns-in-Err : goal.returns-in-Err
returns-in-Err c = let both = told-refused _ _ _ _ _ _ _ (ap told c.in-Err.is) c.put-in-Err.ensures in record { value = c.from.ensures ∙ both.0; answer_after = both.1 }
