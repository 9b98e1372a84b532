use Rattle.model.specs.Meaning.{model}
use Rattle.printing.proofs.Writing.{keeps_written, keeps_both}
use Rattle.lines.proofs.Entries.{type_line_is, extents}
use Rattle.lines.proofs.type_line.Goals as goal

pub returns : goal.returns
returns c = record {
  kept = keeps_both (keeps_written c.put_head.ensures) (keeps_both (keeps_written c.put_details.ensures.written) (keeps_written c.end_line.ensures));
  of = λ t h.
      type_line_is _ (model c.args.m) t c.args.row _ _ _
      (c.row_numbers-x.ensures.of t h.0 h.1)
      (c.size_of-size.ensures.of t h.0 (extents h.1))
      (c.align_of-align.ensures.of t h.0 (extents h.1) h.2)
      c.put_head.ensures
      c.put_details.ensures
      c.end_line.ensures;
}
