use Rattle.printing.proofs.Writing.{a-line, a_word, last_word}
use Rattle.definition.specs.Text.{bytes}
use Rattle.definition.specs.Listing.{member_line}
use Rattle.line_format.proofs.Rows.{first_bit_word, width_word}
use Rattle.line_format.proofs.put_member.Goals as goal

pub returns : goal.returns
unfolding member_line bytes
returns c = a-line c.put.ensures (a_word c.next.ensures (a_word (rw (c.and.ensures, first_bit_word _ _) at c.next-2.ensures) (a_word (rw (width_word _ c.args.x.bit) at c.next-3.ensures) (a_word c.next-4.ensures (last_word c.next-5.ensures))))) c.end_line.ensures
