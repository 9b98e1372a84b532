use mathlib.Core.Path.{refl, sym, ap, ◌∙◌}
use Rattle.definition.specs.Composite.{anonymous_member, is_composite}
use Rattle.table.proofs.Branch.{yes!, nay! }
use Rattle.table.proofs.Shown.{no! }
use Rattle.fields.proofs.anonymous_member.Goals as goal

pub returns-then-not-is_composite : goal.returns-then-not-is_composite
unfolding anonymous_member
returns-then-not-is_composite c = λ ts m next. record { run = λ t h. nay! _ _ _ (ap is_composite (sym (c.resolved_kind.ensures.of t h.words)) ∙ sym c.if-not-is_composite.ensures) (no! h refl) }

pub returns : goal.returns
unfolding anonymous_member
returns c = λ ts m next. record { run = λ t h. yes! _ _ _ (ap is_composite (sym (c.resolved_kind.ensures.of t h.words)) ∙ sym c.if-not-is_composite.ensures) ((c.push_field.ensures tt).run t h) }
