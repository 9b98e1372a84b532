use Rattle.printing.proofs.Writing.{a-line, a_word, last_word}
use Rattle.definition.specs.Text.{bytes}
use Rattle.definition.specs.Listing.{param_line}
use Rattle.line_format.proofs.put_param.Goals as goal

pub returns : goal.returns
unfolding param_line bytes
returns c = a-line c.put.ensures (a_word c.next.ensures (last_word c.next-2.ensures)) c.end_line.ensures
