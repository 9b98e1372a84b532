use native.Mathlib.Omega.{arith}
use mathlib.Core.Path.{sym, ap, ◌∙◌}
use borrow.Author.Tests.{eq-eqb}
use Rattle.table.specs.Noting.{from_bound, first_named}
use Rattle.lemmas.proofs.Branch.{yes}
use Rattle.table.proofs.Index.{first_by, less_one, none_before}
use Rattle.table.proofs.first_named.Goals as goal

pub returns-then-name-eq0-clause-at : goal.returns-then-name-eq0-clause-at
unfolding first_named
returns-then-name-eq0-clause-at c = sym (yes _ _ _ (eq-eqb _ 0 c.if-name-eq0.true))

pub returns-then-name-eq0-clause-none_before : goal.returns-then-name-eq0-clause-none_before
returns-then-name-eq0-clause-none_before c = none_before _ _ _ (returns-then-name-eq0-clause-at c)

pub returns-clause-at : goal.returns-clause-at
returns-clause-at c = first_by _ _ _ _ (omega (arith, (rw c.from.ensures at c.name_slot.ensures).0)) c.if-name-eq0.false (less_one _ _ c.checked_sub.ensures ∙ ap from_bound c.bound_for-bound.ensures)

pub returns-clause-none_before : goal.returns-clause-none_before
returns-clause-none_before c = none_before _ _ _ (returns-clause-at c)
