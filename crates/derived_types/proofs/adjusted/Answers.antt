use native.Mathlib.Omega.{arith}
use mathlib.Core.Path.{refl, sym, ap, ◌∙◌}
use Rattle.definition.specs.Row.{pointer, target_of}
use Rattle.definition.specs.Table.{row_at}
use Rattle.definition.specs.Types.{add, resolved_kind}
use Rattle.definition.specs.Declarator.{adjusted}
use Rattle.table.specs.Held.{state}
use Rattle.table.proofs.Branch.{by, eq+, eq-}
use Rattle.table.proofs.Shown.{got!, no! }
use Rattle.derived_types.proofs.adjusted.Goals as goal

pub returns-in-5 : goal.returns-in-5
unfolding adjusted
returns-in-5 c = record {
  run = λ t h. eq+ _ _ _ _ (sym (c.resolved_kind.ensures.of t h.words) ∙ c.in-5.is)
      (by (ap (λ z. add (pointer z) (state c.args.c t)) (sym (c.row_target.ensures.of t h.words ∙ ap (λ z. target_of (row_at t z)) (c.resolve.ensures.of t h.words)))) (c.add_pointer.ensures.run t h));
}

pub returns-in-9 : goal.returns-in-9
unfolding adjusted
returns-in-9 c = record { run = λ t h. let e = c.resolved_kind.ensures.of t h.words in eq- (resolved_kind t c.args.b) 5 _ _ (λ x. omega (arith, e)) (eq+ _ _ _ _ (sym e ∙ c.in-9.is) (c.add_pointer-in-9.ensures.run t h)) }

pub returns-in-0 : goal.returns-in-0
unfolding adjusted
returns-in-0 c = record { run = λ t h. let e = c.resolved_kind.ensures.of t h.words in eq- (resolved_kind t c.args.b) 5 _ _ (λ x. omega (arith, e)) (eq- (resolved_kind t c.args.b) 9 _ _ (λ x. omega (arith, e)) (eq+ _ _ _ _ (sym e ∙ c.in-0.is) (no! h refl))) }

pub returns-in_default : goal.returns-in_default
unfolding adjusted
returns-in_default c = record { run = λ t h. let e = c.resolved_kind.ensures.of t h.words in eq- (resolved_kind t c.args.b) 5 _ _ (λ x. omega (arith, e)) (eq- (resolved_kind t c.args.b) 9 _ _ (λ x. omega (arith, e)) (eq- (resolved_kind t c.args.b) 0 _ _ (λ x. omega (arith, e)) (got! h))) }
