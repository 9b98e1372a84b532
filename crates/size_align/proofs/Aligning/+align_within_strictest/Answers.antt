use native.Mathlib.Omega.{arith}
use mathlib.Core.Path.{◌≡◌, refl, sym, ap, ◌∙◌}
use mathlib.Core.Bool.{true, false}
use mathlib.Core.Option.{some}
use borrow.Author.Rules.{rules}
use Rattle.definition.specs.RowKind.{array_kind, struct_kind, union_kind, typedef_kind, qualified_kind}
use Rattle.definition.specs.Align.{or_one}
use Rattle.size_align.specs.Measure.{among}
use Rattle.size_align.proofs.Sized.{no_levels, composite-aligned, alias_aligned, own-aligned}
use Rattle.size_align.proofs.Gathered.{begins, gathered, ended, skips, takes}
use Rattle.size_align.proofs.Aligning.+align_within_strictest.Goals as goal

pub align_within-loop-below-init : goal.align_within-loop-below-init
align_within-loop-below-init t c = λ m t₁ h. refl

pub align_within-returns-in-6 : goal.align_within-returns-in-6
unfolding among
align_within-returns-in-6 t c =
    let q : among c.row_kind-kind.result struct_kind union_kind union_kind ≡ true = search rules in
    record { of = λ m t₁ h. ap some (c.or_one.ensures ∙ ap or_one (c.strictest-best.ensures.of m t₁ h)) ∙ sym (c.loop-below.invariant m t₁ h ∙ composite-aligned m t₁ _ _ c.loop-below-test.true (c.row_kind-kind.ensures.of t₁ h.words) q) }

pub align_within-returns-in_default : goal.align_within-returns-in_default
unfolding among
align_within-returns-in_default t c =
    let p : among c.row_kind-kind.result struct_kind union_kind union_kind ≡ false = search rules in
    let q : among c.row_kind-kind.result array_kind typedef_kind qualified_kind ≡ false = search rules in
    record { of = λ m t₁ h. c.own_align.ensures.of m t₁ h ∙ sym (c.loop-below.invariant m t₁ h ∙ own-aligned m t₁ _ _ c.loop-below-test.true (c.row_kind-kind.ensures.of t₁ h.words) p refl q) }

pub align_within-loop-below-preserved : goal.align_within-loop-below-preserved
unfolding among
align_within-loop-below-preserved t c =
    let p : among c.row_kind-kind.result struct_kind union_kind union_kind ≡ false = search rules in
    let q : among c.row_kind-kind.result array_kind typedef_kind qualified_kind ≡ true = search rules in
    λ m t₁ h. c.loop-below.invariant m t₁ h ∙ alias_aligned m t₁ _ _ c.loop-below-test.true (c.row_kind-kind.ensures.of t₁ h.words) p (c.row_target-row.ensures.of t₁ h.words) q

pub align_within-returns : goal.align_within-returns
align_within-returns t c = record { of = λ m t₁ h. sym (c.loop-below.invariant m t₁ h ∙ no_levels m t₁ _ _ (omega (arith, c.loop-below-test.false))) }

pub strictest-loop-i-init : goal.strictest-loop-i-init
strictest-loop-i-init t c = λ m t₁ h. begins refl

pub strictest-returns-then-left-eq0 : goal.strictest-returns-then-left-eq0
strictest-returns-then-left-eq0 t c = record { of = λ m t₁ h. gathered (c.loop-i.invariant m t₁ h) c.if-left-eq0.true ∙ rw (c.row_first-first.ensures.of t₁ h.words, c.row_count-left.ensures.of t₁ h.words) }

pub strictest-loop-i-preserved-then-member_row-n : goal.strictest-loop-i-preserved-then-member_row-n
strictest-loop-i-preserved-then-member_row-n t c = λ m t₁ h. skips (c.loop-i.invariant m t₁ h) (omega (arith, c.loop-i-test.true, h.members)) (c.member_row.ensures.of t₁ h.words) c.if-member_row-n.true

pub strictest-loop-i-preserved : goal.strictest-loop-i-preserved
strictest-loop-i-preserved t c = λ m t₁ h. takes (c.loop-i.invariant m t₁ h) (omega (arith, c.loop-i-test.true, h.members)) (c.member_row.ensures.of t₁ h.words) c.if-member_row-n.false c.if-left-eq0.false (c.member_type-ty.ensures.of t₁ h.words) (c.align_within-a.ensures.of m t₁ h) c.larger-best.ensures

pub strictest-returns : goal.strictest-returns
strictest-returns t c = record { of = λ m t₁ h. ended (c.loop-i.invariant m t₁ h) (omega (arith, c.loop-i-test.false, h.members)) ∙ rw (c.row_first-first.ensures.of t₁ h.words, c.row_count-left.ensures.of t₁ h.words) }
