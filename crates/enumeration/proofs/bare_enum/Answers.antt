use mathlib.Core.Path.{refl}
use Rattle.definition.specs.Table.{used}
use Rattle.definition.specs.Enumeration.{bare_enum}
use Rattle.table.proofs.Branch.{eq+, eq-}
use Rattle.table.proofs.Shown.{no! }
use Rattle.enumeration.proofs.Enums.{noted}
use Rattle.enumeration.proofs.bare_enum.Goals as goal

pub returns-then-name-eq-NO_NAME : goal.returns-then-name-eq-NO_NAME
unfolding bare_enum
returns-then-name-eq-NO_NAME c = record { run = λ t h. eq+ _ _ _ _ c.if-name-eq-NO_NAME.true (no! h refl) }

pub returns : goal.returns
unfolding bare_enum
returns c = record { run = λ t h. eq- _ _ _ _ c.if-name-eq-NO_NAME.false (noted (used c.args.name) (c.enum_tag_row.ensures.run t h)) }
