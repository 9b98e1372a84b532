use native.Mathlib.Omega.{arith}
use mathlib.Core.Path.{sym, ap, ◌∙◌}
use Prim.Native.Nat.{ℕ, ◌+◌, ◌*◌}
use Rattle.std.proofs.lemmas.List.{length-map}
use Rattle.encoding.specs.Kinds.{kind_number}
use Rattle.spellings.proofs.Steps.{on-next, on-found, on-end, is_name_read}
use Rattle.spellings.proofs.walk.Goals as goal

pub returns-then-is_name_of : goal.returns-then-is_name_of
returns-then-is_name_of c = on-found c.requires.rising c.loop-j.invariant _ (omega arith) (is_name_read _ _ c.args.kinds.now c.in-Some.j _ c.index-kinds-j.is (omega (arith, c.loop-j.invariant.low, c.requires.kinds, length-map c.args.kinds.now kind_number)) (sym c.is_name_of.ensures ∙ c.if-is_name_of.true))

pub loop-j-preserved : goal.loop-j-preserved
loop-j-preserved c =
    on-next c.requires.rising c.loop-j.invariant c.in-Some.j _ (omega arith) (is_name_read _ _ c.args.kinds.now c.in-Some.j _ c.index-kinds-j.is (omega (arith, c.loop-j.invariant.low, c.requires.kinds, length-map c.args.kinds.now kind_number)) (sym c.is_name_of.ensures ∙ c.if-is_name_of.false))
    (ap (λ (x : ℕ). c.args.heads + 2 * c.in-Some.j + x) c.side.ensures.value)

pub returns : goal.returns
returns c = on-end c.requires.rising c.loop-j.invariant (omega arith)
