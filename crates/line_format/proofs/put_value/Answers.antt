use Rattle.printing.proofs.Writing.{a-line, a_word, last_word}
use Rattle.arithmetic.proofs.Told.{back}
use Rattle.definition.specs.Text.{bytes}
use Rattle.definition.specs.Listing.{value_line}
use Rattle.line_format.proofs.put_value.Goals as goal

pub returns : goal.returns
unfolding value_line bytes
returns c = a-line c.put.ensures (a_word (rw (back c.ranges.value) at c.next.ensures) (last_word c.next-2.ensures)) c.end_line.ensures
