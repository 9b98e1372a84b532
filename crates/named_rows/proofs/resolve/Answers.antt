use mathlib.Core.Path.{◌≡◌, refl, sym, ap, ◌∙◌}
use Prim.Native.Nat.{◌+◌, ◌-◌}
use native.Mathlib.Omega.{arith}
use borrow.Author.Rules.{rules}
use borrow.Author.Tests.{not-true, not-false}
use Rattle.definition.specs.Row.{target_of}
use Rattle.definition.specs.Table.{row_at}
use Rattle.definition.specs.Types.{resolve_within}
use Rattle.named_rows.proofs.Searches.{resolve-on, resolve-end, resolve-out}
use Rattle.named_rows.proofs.resolve.Goals as goal

pub loop-init : goal.loop-init
loop-init c = λ t h. refl

pub returns-then-not-is_alias : goal.returns-then-not-is_alias
returns-then-not-is_alias c = record { of = λ t h. sym (c.loop.invariant t h ∙ resolve-end t _ _ (omega arith) (sym (c.is_alias.ensures.of t h) ∙ not-true _ (search rules))) }

pub loop-preserved : goal.loop-preserved
loop-preserved c =
    let e : 64 - c.loop.counter - 1 ≡ 64 - (c.loop.counter + 1) = omega arith in
    λ t h. c.loop.invariant t h ∙ (resolve-on t _ _ (omega arith) (sym (c.is_alias.ensures.of t h) ∙ not-false _ (search rules)) ∙ (ap (λ k. resolve_within k t (target_of (row_at t c.loop.row))) e ∙ ap (λ z. resolve_within (64 - (c.loop.counter + 1)) t z) (sym (c.row_target-row.ensures.of t h))))

pub returns : goal.returns
returns c = record { of = λ t h. sym (c.loop.invariant t h ∙ resolve-out t _ _ (omega arith)) }
