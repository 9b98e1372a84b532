use native.Mathlib.Omega.{arith}
use mathlib.Core.Path.{refl, ap}
use mathlib.Core.Bool.{not}
use Rattle.definition.specs.Enumeration.{enumeration₁}
use Rattle.table.proofs.Branch.{by, yes!, nay! }
use Rattle.table.proofs.Shown.{no!, step-on, held_at}
use Rattle.enumerators.proofs.Naming.{no_name_lem, a-name, inside}
use Rattle.enumeration.proofs.Enums.{tagged, no_level, a-level}
use Rattle.enumeration.proofs.enumeration.Goals as goal

pub returns-then-room-eq0 : goal.returns-then-room-eq0
returns-then-room-eq0 c = record { run = λ t h. by (no_level _ _ _ c.if-room-eq0.true) (no! h refl) }

pub overflow_add-at : goal.overflow_add-at
overflow_add-at c = omega (arith, c.well_formed, inside c.args.ts.now.kinds.now c.kind.ensures c.is_name.ensures (ap not c.if-is_name.true))

pub after_tag-requires : goal.after_tag-requires
after_tag-requires c = held_at c.moved.ensures c.requires

pub returns-then-is_name : goal.returns-then-is_name
unfolding enumeration₁
returns-then-is_name c = record { run = λ t h. by (a-level _ _ _ c.if-room-eq0.false) (yes! _ _ _ (a-name c.kind.ensures c.is_name.ensures (ap not c.if-is_name.true)) (tagged _ _ _ _ c.name-name.ensures (step-on c.moved.ensures c.after_tag.ensures h))) }

pub returns : goal.returns
unfolding enumeration₁
returns c = record { run = λ t h. by (a-level _ _ _ c.if-room-eq0.false) (nay! _ _ _ (no_name_lem c.kind.ensures c.is_name.ensures (ap not c.if-is_name.false)) (c.after_tag-2.ensures.run t h)) }
