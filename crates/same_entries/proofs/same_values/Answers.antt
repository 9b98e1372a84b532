use Rattle.std.proofs.Common.{rules}
use Rattle.definition.specs.Types.{same_value}
use Rattle.table.specs.Held.{no_value}
use Rattle.same_entries.specs.Entries.{values}
use Rattle.same_entries.proofs.same_values.Goals as goal

pub returns-then-is_short : goal.returns-then-is_short
returns-then-is_short c = record { of = λ t h g e. (let z = c.if-is_short.ensures t h in absurd cc) }

pub returns : goal.returns
returns c = record { of = λ t h g e. c.same_lists.ensures.of values (λ x. x.row) same_value no_value t.values e (λ i n q. search rules) (λ a b s q. search rules) }
