use Rattle.printing.proofs.Writing.{a_word, last_word, a_head}
use Rattle.definition.specs.Text.{bytes}
use Rattle.line_format.proofs.Rows.{align_word}
use Rattle.line_format.proofs.put_head.Goals as goal

pub returns : goal.returns
unfolding bytes
returns c = a_head c.put.ensures (a_word c.next.ensures (a_word (rw c.kind_word.ensures at c.next-2.ensures) (a_word c.next_size.ensures (last_word (rw (align_word _) at c.next-3.ensures)))))
