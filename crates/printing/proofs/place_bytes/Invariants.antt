use Rattle.std.proofs.Common.{take}
use Rattle.printing.specs.Written.{Wrote}
use Rattle.printing.proofs.place_bytes.Given as goal

abbrev pub invariant-loop-b : goal.invariant-loop-b
invariant-loop-b l = Wrote (take l.b-index l.s) l.initial.buffer l.at l.buffer l.place
