use mathlib.Core.Path.{ap}
use Rattle.definition.specs.Table.{Declaration}
use Rattle.lines.proofs.declaration_name.Goals as goal

pub returns : goal.returns
returns c = record { of = λ t h. ap (λ (x : Declaration). x.name) (c.declaration_at.ensures.of t h) }
