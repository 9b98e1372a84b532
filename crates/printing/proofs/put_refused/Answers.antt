use Rattle.printing.proofs.Writing.{a-line, a_word, last_word}
use Rattle.definition.specs.Text.{bytes}
use Rattle.definition.specs.Listing.{refused_line}
use Rattle.printing.proofs.put_refused.Goals as goal

pub returns : goal.returns
unfolding refused_line bytes
returns c = a-line c.put.ensures (a_word c.next.ensures (a_word c.next-2.ensures (a_word c.next-3.ensures (last_word c.next-4.ensures)))) c.end_line.ensures
