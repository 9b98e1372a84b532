use native.Mathlib.Omega.{arith}
use mathlib.Core.Path.{sym, ap, ◌∙◌}
use Prim.Native.Nat.{max}
use Rattle.definition.specs.Layout.{within}
use Rattle.layout_arithmetic.proofs.RoundUp.{round_in_parts}
use Rattle.layout_arithmetic.proofs.next_place.Goals as goal

pub returns : goal.returns
returns c = λ at. rw c.bytes_of.ensures at (c.round_up.ensures at) ∙ ap (within at) (sym (round_in_parts c.args.bits 8 (max c.args.align 1) (omega arith) (omega arith)))
