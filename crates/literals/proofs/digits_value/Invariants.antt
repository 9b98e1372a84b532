use mathlib.Core.Path.{◌≡◌}
use mathlib.Core.Bool.{true}
use lib.ListN.{take}
use Rattle.definition.specs.Number.{are_digits, value_from}
use Rattle.literals.specs.Shown.{ranged}
use Rattle.literals.proofs.digits_value.Given as goal

abbrev pub invariant-loop-b : goal.invariant-loop-b
invariant-loop-b l = record { digits : are_digits l.base (take l.b-index l.digits) ≡ true; value : l.v ≡ ranged (value_from l.base 0 (take l.b-index l.digits)) }
