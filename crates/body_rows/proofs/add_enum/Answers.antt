use Rattle.definition.specs.Row.{enumeration, span_of}
use Rattle.definition.specs.Enumeration.{add_enum, own_values}
use Rattle.encoding.specs.Spans.{span}
use Rattle.body_rows.proofs.add_enum.Goals as goal

pub returns : goal.returns
unfolding add_enum own_values span_of
returns c = record { run = (c.add.ensures.of (enumeration 0 c.args.bytes (span c.args.values)) c.enum_row-row.ensures).run }

pub add-requires : goal.add-requires
unfolding span_of
add-requires c = record { held = c.requires.0; first = rw c.enum_row-row.ensures c.requires.1; a_row = (enumeration 0 c.args.bytes (span c.args.values), c.enum_row-row.ensures) }
