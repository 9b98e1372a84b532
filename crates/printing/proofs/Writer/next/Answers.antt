use Rattle.printing.proofs.Writing.{then}
use Rattle.printing.proofs.Writer.next.Goals as goal

pub returns : goal.returns
returns g c = then c.put_byte.ensures c.put.ensures
