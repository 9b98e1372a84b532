use Rattle.std.proofs.Common.{sym}
use Rattle.std.proofs.lemmas.List.{take_more}
use Rattle.printing.proofs.Writing.{nothing_there, in_place, then_there}
use Rattle.printing.proofs.place_bytes.Goals as goal

pub loop-b-init : goal.loop-b-init
loop-b-init c = nothing_there

pub loop-b-preserved : goal.loop-b-preserved
loop-b-preserved c = in_place (then_there c.loop-b.invariant c.place_byte-place.ensures) (sym (take_more _ _ 0 c.loop-b-test.true))
