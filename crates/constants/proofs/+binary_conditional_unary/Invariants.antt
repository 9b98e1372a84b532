use Prim.Native.Nat.{suc, ◌+◌, ◌-◌, ◌*◌}
use lib.ListN.{length}
use Rattle.encoding.specs.Kinds.{kind_numbers}
use Rattle.constants.specs.Reading.{tokens_of, known_to}
use Rattle.table.specs.Ends.{Ends}
use Rattle.constants.proofs.Rounds.{Going}
use Rattle.definition.specs.Constant.{operators_from, level}
use Rattle.constants.proofs.+binary_conditional_unary.Given as goal

abbrev pub decreases-binary : goal.decreases-binary
decreases-binary l = 3 * l.room + 1

abbrev pub invariant-binary-loop-k : goal.invariant-binary-loop-k
invariant-binary-loop-k l = Ends (Going (tokens_of l.s) (known_to l.s) (level (tokens_of l.s) (known_to l.s) (l.room - 1)) l.low l.left l.t.at)
    (operators_from (tokens_of l.s) (known_to l.s) (level (tokens_of l.s) (known_to l.s) (l.room - 1)) (suc (length (kind_numbers l.s.kinds.now) - l.initial.t.at)) l.low l.initial.left l.initial.t.at)

abbrev pub decreases-binary-loop-k : goal.decreases-binary-loop-k
decreases-binary-loop-k l = length l.s.kinds.now - l.t.at

abbrev pub decreases-conditional : goal.decreases-conditional
decreases-conditional l = 3 * l.room + 2

abbrev pub decreases-unary : goal.decreases-unary
decreases-unary l = 3 * l.room
