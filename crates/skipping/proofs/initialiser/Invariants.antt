use Rattle.std.proofs.Common.{◌≡◌, List, ℕ, suc, ◌+◌, ◌-◌, length, pos, neg_ℤ, ◌≤ℤ◌}
use Rattle.encoding.specs.Kinds.{kind_numbers}
use Rattle.definition.specs.Table.{Table}
use Rattle.definition.specs.Reader.{initialiser, skip_initialiser}
use Rattle.skipping.specs.Passing.{tokens, standing}
use Rattle.skipping.proofs.initialiser.Given as goal

abbrev pub invariant-loop-i : goal.invariant-loop-i
invariant-loop-i l = record {
  same : (ns : List ℕ) (t : Table) → initialiser (tokens (kind_numbers l.kinds) ns) (standing l.at t)
      ≡ skip_initialiser (tokens (kind_numbers l.kinds) ns) (suc (suc (length (kind_numbers l.kinds) - (l.begin + l.i)))) l.depth (standing (l.begin + l.i) t);
  above : neg_ℤ (pos l.i) ≤ℤ l.depth;
  below : l.depth ≤ℤ pos l.i;
}
