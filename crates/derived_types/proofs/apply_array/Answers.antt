use mathlib.Core.Path.{refl, sym, ◌∙◌}
use Rattle.definition.specs.Row.{array}
use Rattle.definition.specs.Declarator.{apply}
use Rattle.lemmas.specs.Options.{option}
use Rattle.table.proofs.Branch.{by, eq+, eq-}
use Rattle.table.proofs.Shown.{no! }
use Rattle.derived_types.proofs.Derived.{one_more}
use Rattle.derived_types.proofs.apply_array.Goals as goal

pub returns-then-resolved_kind-eq-VOID_KIND : goal.returns-then-resolved_kind-eq-VOID_KIND
unfolding apply
returns-then-resolved_kind-eq-VOID_KIND c = record { run = λ t h. eq+ _ _ _ _ (sym (c.resolved_kind.ensures.of t h.words) ∙ c.if-resolved_kind-eq-VOID_KIND.true) (no! h refl) }

pub returns : goal.returns
unfolding apply
returns c = record {
  run = λ t h. eq- _ _ _ _ (λ z. c.if-resolved_kind-eq-VOID_KIND.false (c.resolved_kind.ensures.of t h.words ∙ z))
      (by (one_more _) ((c.add_row.ensures.of (array c.args.b (option c.args.bound)) c.array_row.ensures).run t h));
}
