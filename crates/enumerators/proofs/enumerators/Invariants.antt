use Rattle.naming.specs.Meaning.{tokens}
use Rattle.definition.specs.Token.{left}
use Rattle.enumerator_values.specs.Pending.{pending}
use Rattle.enumerators.proofs.Turns.{Reading}
use Rattle.enumerators.proofs.enumerators.Given as goal

abbrev pub invariant-loop-next : goal.invariant-loop-next
invariant-loop-next l = Reading (tokens l.ts) l.room l.first l.initial.s l.initial.w l.initial.d l.initial.v (pending l.next) l.s l.w l.d l.v

abbrev pub decreases-loop-next : goal.decreases-loop-next
decreases-loop-next l = left (tokens l.ts) l.s.at
