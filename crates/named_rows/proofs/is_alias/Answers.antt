use mathlib.Core.Path.{◌∙◌}
use borrow.Author.Tests.{eq-eqb}
use Rattle.named_rows.proofs.Searches.{alias_first, alias_second}
use Rattle.named_rows.proofs.is_alias.Goals as goal

pub returns-then-kind-eq-TYPEDEF_KIND : goal.returns-then-kind-eq-TYPEDEF_KIND
returns-then-kind-eq-TYPEDEF_KIND c = record { of = λ t h. eq-eqb _ _ c.if-kind-eq-TYPEDEF_KIND.true ∙ alias_first _ _ (c.row_kind-kind.ensures.of t h) c.if-kind-eq-TYPEDEF_KIND.true }

pub returns-else-kind-eq-TYPEDEF_KIND : goal.returns-else-kind-eq-TYPEDEF_KIND
returns-else-kind-eq-TYPEDEF_KIND c = record { of = λ t h. alias_second _ _ (c.row_kind-kind.ensures.of t h) c.if-kind-eq-TYPEDEF_KIND.false }
