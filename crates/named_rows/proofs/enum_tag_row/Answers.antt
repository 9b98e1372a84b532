use mathlib.Core.Path.{refl}
use Rattle.definition.specs.Row.{enumeration, nothing, kind_of, target_of, flags_of, row_name, span_of, extent_of}
use Rattle.definition.specs.Enumeration.{enum_tag_row}
use Rattle.named_rows.proofs.enum_tag_row.Goals as goal

pub returns : goal.returns
unfolding enum_tag_row kind_of target_of flags_of row_name span_of extent_of
returns c = record { run = λ t h. (c.first_tag_row.ensures.of (enumeration c.args.name c.args.bytes nothing) refl).run t h }
