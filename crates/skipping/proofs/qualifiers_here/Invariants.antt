use Rattle.std.proofs.Common.{◌≡◌, List, ℕ, suc, ◌+◌, ◌-◌, length}
use Rattle.encoding.specs.Kinds.{kind_numbers}
use Rattle.definition.specs.Table.{Table}
use Rattle.definition.specs.Declarator.{qualifiers_here, qualifiers_from}
use Rattle.words.specs.Meaning.{qualifiers}
use Rattle.skipping.specs.Passing.{tokens, standing}
use Rattle.skipping.proofs.qualifiers_here.Given as goal

abbrev pub invariant-loop-i : goal.invariant-loop-i
invariant-loop-i l = (ns : List ℕ) (t : Table) → qualifiers_here (tokens (kind_numbers l.kinds) ns) (standing l.at t)
    ≡ qualifiers_from (tokens (kind_numbers l.kinds) ns) (suc (length (kind_numbers l.kinds) - (l.at + l.i))) (qualifiers l.q) (standing (l.at + l.i) t)
