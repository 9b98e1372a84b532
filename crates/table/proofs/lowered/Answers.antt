use native.Mathlib.Omega.{arith}
use Rattle.table.proofs.Index.{name_lowered, tag_lowered}
use borrow.Author.Tests.{eq-eqb, ne_eqb}
use Rattle.table.proofs.lowered.Goals as goal

pub returns-then-kind-eq-TYPEDEF_KIND : goal.returns-then-kind-eq-TYPEDEF_KIND
returns-then-kind-eq-TYPEDEF_KIND c = name_lowered _ _ _ c.requires.0 c.sooner.ensures (omega (arith, c.sooner.ensures.here, c.requires.1)) _ (eq-eqb _ _ c.if-kind-eq-TYPEDEF_KIND.true)

pub returns-else-kind-eq-TYPEDEF_KIND : goal.returns-else-kind-eq-TYPEDEF_KIND
returns-else-kind-eq-TYPEDEF_KIND c = tag_lowered _ _ _ c.requires.0 c.sooner-else-kind-eq-TYPEDEF_KIND.ensures _ (ne_eqb _ _ c.if-kind-eq-TYPEDEF_KIND.false)
