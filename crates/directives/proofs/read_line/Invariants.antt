use Rattle.std.proofs.Common.{◌-◌, ◌≤◌, ◌<◌, length}
use Rattle.definition.specs.Directive.{directive, is_macro}
use Rattle.directives.proofs.Lines.{Turning}
use Rattle.directives.proofs.read_line.Given as goal

abbrev pub invariant-loop-i : goal.invariant-loop-i
invariant-loop-i l = record {
  on : l.at < l.i;
  inside : l.i ≤ length l.text;
  turning : Turning l.text l.i l.state (is_macro (directive l.text l.at).line) (directive l.text l.at).next;
}

abbrev pub decreases-loop-i : goal.decreases-loop-i
decreases-loop-i l = length l.text - l.i
