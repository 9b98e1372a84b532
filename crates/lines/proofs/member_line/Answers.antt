use Rattle.table.specs.Held.{member_at}
use Rattle.printing.proofs.Writing.{as_is, keeps_written}
use Rattle.lines.proofs.Entries.{member-same}
use Rattle.lines.proofs.member_line.Goals as goal

pub returns : goal.returns
returns c = record {
  kept = keeps_written c.put_member.ensures;
  of = λ t h.
      as_is c.put_member.ensures
      (member-same _ (member_at t c.args.i) _ (c.member_offset.ensures.of t h.1) (c.member_width.ensures.of t h.0) (c.member_first_bit.ensures.of t h.1) (c.member_type.ensures.of t h.0)
      (c.member_name.ensures.of t h.0));
}
