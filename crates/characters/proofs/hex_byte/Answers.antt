use native.Mathlib.Omega.{arith}
use Rattle.characters.proofs.Hex.{digits-none, digits-more, digits_above}
use Rattle.characters.proofs.hex_byte.Goals as goal

pub loop-d-init : goal.loop-d-init
loop-d-init c = digits-none _ _ c.requires

pub returns-then-v-ge-HEX_FULL-clause-value : goal.returns-then-v-ge-HEX_FULL-clause-value
returns-then-v-ge-HEX_FULL-clause-value c = digits_above _ _ _ _ c.loop-d.invariant _ c.in-Some.ensures.value c.in-Some.ensures.base _ (omega (arith, c.if-v-ge-HEX_FULL.true))

pub loop-d-preserved : goal.loop-d-preserved
loop-d-preserved c = rw c.from.ensures (digits-more _ _ _ _ c.loop-d.invariant _ c.in-Some.ensures.value c.in-Some.ensures.base (omega (arith, c.if-v-ge-HEX_FULL.false)))
