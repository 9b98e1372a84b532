use Prim.Native.Nat.{◌-◌}
use lib.ListN.{length}
use Rattle.definition.specs.Cut.{cut}
use Rattle.encoding.specs.Kinds.{kind_numbers}
use Rattle.lexer.specs.Going.{Linked}
use Rattle.lexer.specs.Pushing.{Keeps}
use Rattle.lexer.proofs.cut_all.Given as goal

abbrev pub invariant-loop-at : goal.invariant-loop-at
invariant-loop-at l = record {
  keeps : Keeps l.initial.tokens l.tokens;
  linked : Linked l.text l.at l.line l.tokens.count (kind_numbers l.tokens.kinds.now) l.tokens.places.now l.tokens.numbers.now l.links l.heads (cut l.text);
}

abbrev pub decreases-loop-at : goal.decreases-loop-at
decreases-loop-at l = length l.text - l.at
