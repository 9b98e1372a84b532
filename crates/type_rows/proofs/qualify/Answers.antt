use mathlib.Core.Path.{sym, ap, ◌∙◌}
use Rattle.definition.specs.Row.{qualified}
use Rattle.definition.specs.Table.{row_at}
use Rattle.definition.specs.Types.{qualify, add, merged, qualifiers_of}
use Rattle.table.specs.Held.{state}
use Rattle.table.proofs.Branch.{by, yes!, nay!, eq+, eq-}
use Rattle.table.proofs.Shown.{got! }
use Rattle.words.specs.Meaning.{qualifiers}
use Rattle.type_rows.proofs.qualify.Goals as goal

pub returns-then-is_unqualified : goal.returns-then-is_unqualified
unfolding qualify
returns-then-is_unqualified c = record { run = λ t h. yes! _ _ _ (sym c.if-is_unqualified.ensures) (got! h) }

pub returns-then-row_kind-eq-QUALIFIED_KIND : goal.returns-then-row_kind-eq-QUALIFIED_KIND
unfolding qualify
returns-then-row_kind-eq-QUALIFIED_KIND c = record {
  run = λ t h. nay! _ _ _ (sym c.if-is_unqualified.ensures) (eq+ _ _ _ _ (sym (c.row_kind.ensures.of t h.words) ∙ c.if-row_kind-eq-QUALIFIED_KIND.true)
      (by (ap (λ z. add (qualified z (merged (qualifiers_of (row_at t c.args.n)) (qualifiers c.args.q))) (state c.args.c t)) (sym (c.row_target.ensures.of t h.words)))
      ((c.add_qualified.ensures.of (merged (qualifiers_of (row_at t c.args.n)) (qualifiers c.args.q)) (c.merged_bits.ensures.of t h.words (sym (c.row_kind.ensures.of t h.words) ∙ c.if-row_kind-eq-QUALIFIED_KIND.true))).run t h)));
}

pub returns : goal.returns
unfolding qualify
returns c = record {
  run = λ t h. nay! _ _ _ (sym c.if-is_unqualified.ensures) (eq- _ _ _ _ (λ e. c.if-row_kind-eq-QUALIFIED_KIND.false (c.row_kind.ensures.of t h.words ∙ e))
      ((c.add_qualified-2.ensures.of (qualifiers c.args.q) c.bits.ensures).run t h));
}
