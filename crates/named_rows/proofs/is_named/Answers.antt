use mathlib.Core.Path.{◌∙◌}
use borrow.Author.Tests.{ne_eqb}
use Rattle.named_rows.proofs.Searches.{other_name, same_name}
use Rattle.named_rows.proofs.is_named.Goals as goal

pub returns-then-w-at : goal.returns-then-w-at
returns-then-w-at c = record { of = λ t h. same_name h _ c.requires.i_lt_max_rows _ _ c.if-w-at.true }

pub returns-else-w-at : goal.returns-else-w-at
returns-else-w-at c = record { of = λ t h. ne_eqb _ _ c.if-w-at.false ∙ other_name h _ c.requires.i_lt_max_rows _ _ c.if-w-at.false }
