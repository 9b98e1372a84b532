use Rattle.definition.specs.Row.{enumeration, span_of}
use Rattle.definition.specs.Table.{bodied}
use Rattle.definition.specs.Enumeration.{define_enum, own_values, release_values}
use Rattle.encoding.specs.Spans.{span}
use Rattle.body_rows.proofs.Logs.{logged-on}
use Rattle.body_rows.proofs.define_enum.Goals as goal

pub returns : goal.returns
unfolding define_enum own_values release_values span_of
returns c = record { run = λ t h. logged-on (bodied c.args.name) ((c.define.ensures.of (enumeration c.args.name c.args.bytes (span c.args.values)) c.enum_row-row.ensures).run t h) }

pub define-requires : goal.define-requires
define-requires c = record { held = c.requires; a_row = (enumeration c.args.name c.args.bytes (span c.args.values), c.enum_row-row.ensures) }
