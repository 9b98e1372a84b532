use Rattle.std.proofs.Common.{◌≡◌, ◌+◌, ◌≤◌}
use Rattle.definition.specs.Place.{place_of}
use Rattle.scan.proofs.line_column.Given as goal

abbrev pub invariant-loop-b : goal.invariant-loop-b
invariant-loop-b l = record {
  few : l.line + l.column ≤ l.b-index + 2;
  positive : 1 ≤ l.column;
  there : record { line = l.line; column = l.column } ≡ place_of l.passed l.b-index;
}
