use mathlib.Core.Path.{◌≡◌}
use Rattle.constants.specs.Lookup.{last_value}
use Rattle.constants.specs.Reading.{known_to}
use Rattle.constants.proofs.Source.value_of.Given as goal

-- no entry from the k-th on has the name
abbrev pub invariant-loop-k : goal.invariant-loop-k
invariant-loop-k l = known_to l.self l.name ≡ last_value l.self.words.now l.self.values.now l.k l.name
