use native.Mathlib.Omega.{arith}
use mathlib.Core.Path.{◌∙◌}
use Rattle.layout_arithmetic.proofs.RoundUp.{parts-ceil}
use Rattle.layout_arithmetic.proofs.bytes_of.Goals as goal

pub returns : goal.returns
returns c = c.div_ceil.ensures ∙ parts-ceil c.args.bits 8 (omega arith)
