use Rattle.printing.proofs.Writing.{a-line, a_word, last_word}
use Rattle.definition.specs.Text.{bytes}
use Rattle.definition.specs.Listing.{decl_line}
use Rattle.line_format.proofs.put_declaration.Goals as goal

pub returns : goal.returns
unfolding decl_line bytes
returns c = a-line c.put.ensures (a_word (rw c.storage_word.ensures at c.next.ensures) (a_word c.next-2.ensures (last_word c.next-3.ensures))) c.end_line.ensures
