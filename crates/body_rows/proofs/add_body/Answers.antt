use mathlib.Core.Option.{some}
use Rattle.definition.specs.Row.{composite, span_of}
use Rattle.definition.specs.Composite.{add_body, own_members}
use Rattle.encoding.specs.Spans.{span}
use Rattle.body_rows.proofs.add_body.Goals as goal

pub returns : goal.returns
unfolding add_body own_members span_of
returns c = record { run = (c.add.ensures.of (composite c.args.union 0 (some c.args.size) (span c.args.fields)) c.body_row-row.ensures).run }

pub add-requires : goal.add-requires
unfolding span_of
add-requires c = record { held = c.requires.0; first = rw c.body_row-row.ensures c.requires.1; a_row = (composite c.args.union 0 (some c.args.size) (span c.args.fields), c.body_row-row.ensures) }
