use borrow.Author.Rules.{sfits_of}
use native.Mathlib.Omega.{arith}
use Rattle.std.proofs.lemmas.Grind.{common_steps}
use Rattle.std.proofs.lemmas.Option.{gets}
use Prim.Native.Nat.{◌-◌}
use lib.IntN.{pos}
use lib.ListN.{get_or}
use Rattle.arithmetic.proofs.Told.{back}
use mathlib.Core.Path.{◌≡◌, sym, ap, ◌∙◌}
use Rattle.constants.specs.Lookup.{last_value, found}
use Rattle.constants.proofs.Search.{hit, miss, known}
use Rattle.constants.proofs.Source.value_of.Goals as goal

pub loop-k-init : goal.loop-k-init
loop-k-init c = known _ _ _ _ _ _ c.min-from.ensures c.value_bound.ensures

pub returns-then-from-name : goal.returns-then-from-name
unfolding found
returns-then-from-name c =
    let e : c.unwrap_or.result ≡ get_or c.args.self.now.values.now (c.loop-k.k - 1) (pos 0) = grind (arith, common_steps, gets) in
    let h = hit c.args.self.now.words.now c.args.self.now.values.now c.args.name c.loop-k.k c.loop-k-test.true (sym (c.from.ensures ∙ c.word_at.ensures.is) ∙ c.if-from-name.true) in
    rw (back (sfits_of c.unwrap_or.type_inv), e) (sym (c.loop-k.invariant ∙ h))

pub loop-k-preserved : goal.loop-k-preserved
loop-k-preserved c = c.loop-k.invariant ∙ miss c.args.self.now.words.now c.args.self.now.values.now c.args.name c.loop-k.k c.loop-k-test.true (λ e. c.if-from-name.false (c.from.ensures ∙ c.word_at.ensures.is ∙ e))

pub returns : goal.returns
unfolding found last_value
returns c = let e : c.loop-k.k ≡ 0 = omega (arith, c.loop-k-test.false) in sym (c.loop-k.invariant ∙ ap (λ k. last_value c.args.self.now.words.now c.args.self.now.values.now k c.args.name) e)
