use Prim.Native.Nat.{◌-◌}
use Rattle.encoding.specs.Kinds.{kind_numbers}
use Rattle.spellings.proofs.Steps.{On}
use Rattle.spellings.proofs.walk.Given as goal

abbrev pub invariant-loop-j : goal.invariant-loop-j
invariant-loop-j l = On l.text l.word (kind_numbers l.kinds) l.numbers l.links l.count l.heads l.head l.spot l.depth

abbrev pub decreases-loop-j : goal.decreases-loop-j
decreases-loop-j l = l.count - l.depth
