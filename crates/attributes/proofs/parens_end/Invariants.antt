use Rattle.std.proofs.Common.{◌≡◌, zero, ◌+◌, ◌≤◌}
use Rattle.definition.specs.Scan.{from}
use Rattle.definition.specs.Attribute.{in_parens}
use Rattle.attributes.proofs.parens_end.Given as goal

abbrev pub invariant-loop-i : goal.invariant-loop-i
invariant-loop-i l = record { few : l.deep ≤ l.i; rest : in_parens zero l.rest ≡ l.i + in_parens l.deep (from l.rest l.i) }
