use Rattle.std.proofs.Common.{◌≡◌, ◌+◌, false}
use Rattle.definition.specs.Scan.{from}
use Rattle.definition.specs.Quoted.{in_quotes}
use Rattle.punctuators.proofs.string_end.Given as goal

abbrev pub invariant-loop-i : goal.invariant-loop-i
invariant-loop-i l = in_quotes false l.rest ≡ l.i + in_quotes l.taken (from l.rest l.i)
