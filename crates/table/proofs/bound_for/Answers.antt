use Rattle.table.specs.Held.{bound_of}
use mathlib.Core.Path.{ap, sym}
use borrow.Author.Tests.{eq-eqb, ne_eqb}
use Rattle.table.proofs.bound_for.Goals as goal

pub returns-then-kind-eq-TYPEDEF_KIND : goal.returns-then-kind-eq-TYPEDEF_KIND
unfolding bound_of
returns-then-kind-eq-TYPEDEF_KIND c = sym (ap (λ z. bound_of z c.args.noted) (eq-eqb _ 10 c.if-kind-eq-TYPEDEF_KIND.true))

pub returns-else-kind-eq-TYPEDEF_KIND : goal.returns-else-kind-eq-TYPEDEF_KIND
unfolding bound_of
returns-else-kind-eq-TYPEDEF_KIND c = sym (ap (λ z. bound_of z c.args.noted) (ne_eqb _ 10 c.if-kind-eq-TYPEDEF_KIND.false))
