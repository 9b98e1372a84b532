use mathlib.Core.Option.{some}
use Rattle.definition.specs.Row.{composite, span_of}
use Rattle.definition.specs.Table.{bodied}
use Rattle.definition.specs.Composite.{define_body, own_members, release_members}
use Rattle.encoding.specs.Spans.{span}
use Rattle.body_rows.proofs.Logs.{logged-on}
use Rattle.body_rows.proofs.define_body.Goals as goal

pub returns : goal.returns
unfolding define_body own_members release_members span_of
returns c = record { run = λ t h. logged-on (bodied c.args.name) ((c.define.ensures.of (composite c.args.union c.args.name (some c.args.size) (span c.args.fields)) c.body_row-row.ensures).run t h) }

pub define-requires : goal.define-requires
define-requires c = record { held = c.requires; a_row = (composite c.args.union c.args.name (some c.args.size) (span c.args.fields), c.body_row-row.ensures) }
