use Rattle.std.proofs.Common.{◌∙◌}
use mir.Syntax.{w64}
use mir.Facts.{to_z-of_z}
use borrow.Author.Rules.{sfits_of}
use Rattle.table.specs.Held.{value_at}
use Rattle.printing.proofs.Writing.{as_is, keeps_written}
use Rattle.lines.proofs.Entries.{value_same}
use Rattle.lines.proofs.value_line.Goals as goal

pub returns : goal.returns
returns c = record {
  kept = keeps_written c.put_value.ensures;
  of = λ t h. as_is c.put_value.ensures (value_same _ (value_at t c.args.i) (to_z-of_z {w = w64} (sfits_of c.value_at.type_inv) ∙ c.value_at.ensures.of t h.1) (c.value_name.ensures.of t h.0));
}
