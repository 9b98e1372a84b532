use Prim.Native.Nat.{◌+◌, ◌-◌}
use lib.ListN.{length}
use Rattle.characters.proofs.Hex.{Digits}
use Rattle.characters.proofs.hex_byte.Given as goal

abbrev pub invariant-loop-d : goal.invariant-loop-d
invariant-loop-d l = Digits l.text l.at l.n l.v

abbrev pub decreases-loop-d : goal.decreases-loop-d
decreases-loop-d l = length l.text - (l.at + l.n)
