use Rattle.std.proofs.Common.{rules}
use Rattle.definition.specs.Types.{same_parameter}
use Rattle.table.specs.Held.{no_parameter}
use Rattle.same_entries.specs.Entries.{parameters}
use Rattle.same_entries.proofs.same_parameters.Goals as goal

pub returns-then-is_short : goal.returns-then-is_short
returns-then-is_short c = record { of = λ t h e. (let z = c.if-is_short.ensures t h in absurd cc) }

pub returns : goal.returns
returns c = record { of = λ t h e. c.same_lists.ensures.of parameters (λ x. x.row) same_parameter no_parameter t.parameters e (λ i n q. search rules) (λ a b s q. search rules) }
