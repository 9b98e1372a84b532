use mathlib.Core.Path.{ap, ◌∙◌}
use Rattle.definition.specs.Table.{Declaration, storage_number}
use Rattle.lines.proofs.declaration_storage.Goals as goal

pub returns : goal.returns
returns c = record { of = λ t h. c.from.ensures ∙ ap (λ (x : Declaration). storage_number x.storage) (c.declaration_at.ensures.of t h) }
