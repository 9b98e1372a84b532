use native.Mathlib.Omega.{arith}
use mathlib.Core.Path.{◌≡◌, refl, sym, ap}
use mathlib.Core.Bool.{true, false, ◌||◌}
use lib.Dec.{eqb}
use Rattle.std.proofs.lemmas.Grind.{common_steps}
use Rattle.definition.specs.Types.{resolved_kind}
use Rattle.definition.specs.Declarator.{apply, add_function}
use Rattle.table.specs.Held.{state}
use Rattle.table.proofs.Branch.{by, yes!, nay! }
use Rattle.table.proofs.Shown.{no! }
use Rattle.encoding.specs.Spans.{span}
use Rattle.derived_types.proofs.Derived.{one_more}
use Rattle.derived_types.proofs.apply_function.Goals as goal

pub returns-then-kind-eq-ARRAY_KIND : goal.returns-then-kind-eq-ARRAY_KIND
unfolding apply
returns-then-kind-eq-ARRAY_KIND c = record {
  run = λ t h.
      let e : (eqb (resolved_kind t c.args.b) 5 || eqb (resolved_kind t c.args.b) 9) ≡ true = grind (arith, common_steps, c.resolved_kind-kind.ensures.of t h.words) in
      yes! _ _ _ e (no! h refl);
}

pub returns : goal.returns
unfolding apply
returns c = record {
  run = λ t h.
      let e : (eqb (resolved_kind t c.args.b) 5 || eqb (resolved_kind t c.args.b) 9) ≡ false = grind (arith, common_steps, c.resolved_kind-kind.ensures.of t h.words) in
      nay! _ _ _ e (by (one_more _) (by (ap (λ o. add_function o c.args.varargs (span c.args.parameters) (state c.args.c t)) (sym (c.returned.ensures.of t h.words))) (c.add_function.ensures.run t h)));
}
