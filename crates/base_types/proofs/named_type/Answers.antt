use mathlib.Core.Path.{refl, sym, ap, ◌∙◌}
use Rattle.definition.specs.Kind.{is_name}
use Rattle.definition.specs.Types.{typedef_row}
use Rattle.definition.specs.Specifier.{builtin}
use Rattle.definition.specs.Specifiers.{named_type}
use Rattle.table.proofs.Branch.{yes!, nay!, some!, none! }
use Rattle.table.proofs.Shown.{got!, no! }
use Rattle.model.specs.Meaning.{model}
use Rattle.words.specs.Meaning.{known}
use Rattle.words.proofs.Uses.{builtin-plain}
use Rattle.base_types.proofs.Named.{added, none-added, refused-as}
use Rattle.base_types.proofs.named_type.Goals as goal

pub returns-then-not-is_name : goal.returns-then-not-is_name
unfolding named_type
returns-then-not-is_name c = record { run = λ t h. nay! _ _ _ (ap is_name (sym c.kind-kind.ensures.is) ∙ sym c.if-not-is_name.ensures) (no! h refl) }

pub name-requires : goal.name-requires
name-requires c = (ap is_name (sym c.kind-kind.ensures.is) ∙ sym c.if-not-is_name.ensures)

pub returns-in-Some : goal.returns-in-Some
unfolding named_type
returns-in-Some c = let is = ap is_name (sym c.kind-kind.ensures.is) ∙ sym c.if-not-is_name.ensures in
    record { run = λ t h. yes! _ _ _ is (some! _ _ _ (ap (λ z. typedef_row t z) (sym c.name.ensures.is) ∙ sym (c.in-Some.ensures.of t h.words h.index h.counts)) (got! h)) }

pub returns-in_err-b : goal.returns-in_err-b
unfolding named_type
returns-in_err-b c = let is = ap is_name (sym c.kind-kind.ensures.is) ∙ sym c.if-not-is_name.ensures in
    record {
      run = λ t h. yes! _ _ _ is (none! _ _ _ (ap (λ z. typedef_row t z) (sym c.name.ensures.is) ∙ sym (c.in_default.ensures.of t h.words h.index h.counts))
          (none-added _ _ _ (sym c.in_err-b.ensures.ok_part ∙ c.builtin.ensures ∙ ap (λ z. known (builtin (model c.args.m) z)) c.kind-kind.ensures.is) (no! h (refused-as c.builtin.result c.from_residual.result _ c.in_err-b.ensures.value c.in_err-b.ensures.ok_part c.from_residual.ensures.1))));
    }

pub returns : goal.returns
unfolding named_type
returns c = let is = ap is_name (sym c.kind-kind.ensures.is) ∙ sym c.if-not-is_name.ensures in
    record {
      run = λ t h. yes! _ _ _ is (none! _ _ _ (ap (λ z. typedef_row t z) (sym c.name.ensures.is) ∙ sym (c.in_default.ensures.of t h.words h.index h.counts))
          (added _ _ (builtin-plain _ _) (sym c.in_ok-b.ensures.ok_part ∙ c.builtin.ensures ∙ ap (λ z. known (builtin (model c.args.m) z)) c.kind-kind.ensures.is) c.add_base.ensures h));
    }
