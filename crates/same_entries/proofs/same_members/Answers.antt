use Rattle.std.proofs.Common.{rules}
use Rattle.definition.specs.Types.{same_member}
use Rattle.table.specs.Held.{no_member}
use Rattle.same_entries.specs.Entries.{members}
use Rattle.same_entries.proofs.same_members.Goals as goal

pub returns-then-is_short : goal.returns-then-is_short
returns-then-is_short c = record { of = λ t h g e. (let z = c.if-is_short.ensures t h in absurd cc) }

pub returns : goal.returns
returns c = record { of = λ t h g e. c.same_lists.ensures.of members (λ x. x.row) same_member no_member t.members e (λ i n q. search rules) (λ a b s q. search rules) }
