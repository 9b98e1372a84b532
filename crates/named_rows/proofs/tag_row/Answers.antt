use mathlib.Core.Option.{none}
use Rattle.definition.specs.Row.{composite, nothing, kind_of, target_of, flags_of, row_name, span_of, extent_of}
use Rattle.definition.specs.Composite.{tag_row}
use Rattle.named_rows.proofs.tag_row.Goals as goal

pub returns : goal.returns
unfolding tag_row kind_of target_of flags_of row_name span_of extent_of
returns c = record { run = λ t h. (c.first_tag_row.ensures.of (composite c.args.union c.args.name none nothing) (rw c.composite_kind-kind.ensures)).run t h }
