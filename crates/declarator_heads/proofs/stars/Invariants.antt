use lib.ListN.{length}
use Prim.Native.Nat.{◌-◌}
use Rattle.encoding.specs.Kinds.{kind_numbers}
use Rattle.declarator_heads.proofs.Rounds.{Reading}
use Rattle.declarator_heads.proofs.stars.Given as goal

abbrev pub invariant-loop-here : goal.invariant-loop-here
invariant-loop-here l = Reading (kind_numbers l.kinds) l.initial.here l.initial.t l.here l.t

abbrev pub decreases-loop-here : goal.decreases-loop-here
decreases-loop-here l = length (kind_numbers l.kinds) - l.here.at
