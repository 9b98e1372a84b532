use Rattle.table.proofs.Leaves.{member-placed, member-past}
use Rattle.table.proofs.set_member_place.Goals as goal

pub returns-then-i-c : goal.returns-then-i-c
returns-then-i-c c = record { with = λ w v. record { run = λ t h. rw c.put.ensures (member-placed h _ _ _ c.if-i-c.true) } }

pub returns-else-i-c : goal.returns-else-i-c
returns-else-i-c c = record { with = λ w v. record { run = λ t h. member-past h _ _ c.if-i-c.false } }
