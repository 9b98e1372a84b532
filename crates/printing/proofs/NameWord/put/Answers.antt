use Rattle.printing.proofs.Writing.{as_is}
use Rattle.printing.proofs.Names.{no-name, a-name}
use Rattle.printing.proofs.NameWord.put.Goals as goal

pub returns-then-name-eq0 : goal.returns-then-name-eq0
returns-then-name-eq0 c = as_is c.put_byte.ensures (no-name _ _ c.if-name-eq0.true)

pub returns : goal.returns
returns c = as_is c.put.ensures (a-name _ _ c.if-name-eq0.false c.min.ensures c.min-2.ensures)
