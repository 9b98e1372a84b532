use mathlib.Core.Path.{refl}
use Rattle.table.proofs.Branch.{by}
use Rattle.table.proofs.Shown.{no! }
use Rattle.evaluating.proofs.Levels.{no_constant_lem, a-constant}
use Rattle.evaluating.proofs.constant_here.Goals as goal

pub returns-then-room-eq0 : goal.returns-then-room-eq0
returns-then-room-eq0 c = record { with = λ m d. record { run = λ t h. by (no_constant_lem _ m _ c.if-room-eq0.true) (no! h refl) } }

pub returns : goal.returns
returns c = record { with = λ m d. record { run = λ t h. by (a-constant _ m _ c.if-room-eq0.false) ((c.constant_here.ensures.of d).run t h) } }
