use native.Mathlib.Omega.{arith}
use mathlib.Core.Path.{◌∙◌}
use lib.Bits.{bit_and}
use mir.Syntax.{w64}
use mir.Val.{of_z}
use Rattle.definition.specs.Arithmetic.{count}
use Rattle.arithmetic.proofs.Bitwise.{plain}
use Rattle.arithmetic.proofs.Told.{low_count, low_small}
use Rattle.arithmetic.proofs.shift_count.Goals as goal

pub returns : goal.returns
unfolding count
returns c =
    let p = low_small (of_z w64 c.args.b) in
    c.min.ensures ∙ rw (plain w64 (bit_and (of_z w64 c.args.b) 4294967295) (omega arith), low_count c.ranges.b)
