use mathlib.Core.Path.{sym, ap, ◌∙◌}
use Rattle.size_align.specs.Measure.{told}
use Rattle.size_align.proofs.Told.{unknown! }
use Rattle.size_align.proofs.Sized.{extent_of_lem, own-sized, not_below, alias_sized, unsized, array-sized}
use Rattle.size_align.proofs.+size_of.Goals as goal

pub returns-then-not-goes_by_another : goal.returns-then-not-goes_by_another
returns-then-not-goes_by_another t c = record { of = λ t₁ h g. c.own_size.ensures.is ∙ ap told (sym (own-sized _ t₁ _ (c.row_kind-kind.ensures.of t₁ h) (c.row_flags-flags.ensures.of t₁ h) (extent_of_lem _ c.row_extent-extent.ensures g) (sym c.if-not-goes_by_another.ensures))) }

pub returns-then-n-target : goal.returns-then-n-target
returns-then-n-target t c = record { of = λ t₁ h g. unknown! _ (not_below _ t₁ _ (c.row_kind-kind.ensures.of t₁ h) (c.row_target-target.ensures.of t₁ h) (sym c.if-not-goes_by_another.ensures) c.if-n-target.true) }

pub returns-then-kind-ne-ARRAY_KIND : goal.returns-then-kind-ne-ARRAY_KIND
returns-then-kind-ne-ARRAY_KIND t c = record {
  of = λ t₁ h g. c.size_of-under.ensures.of t₁ h g
      ∙ ap told (sym (alias_sized _ t₁ _ (c.row_kind-kind.ensures.of t₁ h) (c.row_target-target.ensures.of t₁ h) (sym c.if-not-goes_by_another.ensures) c.if-n-target.false c.if-kind-ne-ARRAY_KIND.true));
}

pub returns-then-flags-eq0 : goal.returns-then-flags-eq0
returns-then-flags-eq0 t c = record { of = λ t₁ h g. unknown! _ (unsized _ t₁ _ (c.row_kind-kind.ensures.of t₁ h) (c.row_target-target.ensures.of t₁ h) (sym c.if-not-goes_by_another.ensures) (c.row_flags-flags.ensures.of t₁ h) c.if-kind-ne-ARRAY_KIND.false c.if-flags-eq0.true) }

pub returns : goal.returns
returns t c = record {
  of = λ t₁ h g. c.times.ensures.of _ (c.size_of-under.ensures.of t₁ h g)
      ∙ ap told (sym (array-sized _ t₁ _ (c.row_kind-kind.ensures.of t₁ h) (c.row_target-target.ensures.of t₁ h) (sym c.if-not-goes_by_another.ensures) (c.row_flags-flags.ensures.of t₁ h) (extent_of_lem _ c.row_extent-extent.ensures g) c.if-n-target.false c.if-kind-ne-ARRAY_KIND.false c.if-flags-eq0.false));
}
