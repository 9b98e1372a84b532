use mathlib.Core.Path.{ap, ◌∙◌}
use Rattle.definition.specs.Row.{kind_of}
use Rattle.definition.specs.Table.{row_at}
use Rattle.named_rows.proofs.resolved_kind.Goals as goal

pub returns : goal.returns
returns c = record { of = λ t h. c.row_kind.ensures.of t h ∙ ap (λ z. kind_of (row_at t z)) (c.resolve.ensures.of t h) }
