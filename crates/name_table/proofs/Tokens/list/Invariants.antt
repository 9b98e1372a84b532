use Rattle.encoding.specs.Kinds.{kind_numbers}
use Rattle.name_table.proofs.Crossing.{ListedTo}
use Rattle.name_table.proofs.Tokens.list.Given as goal

abbrev pub invariant-loop-i : goal.invariant-loop-i
invariant-loop-i l = ListedTo (kind_numbers l.self.kinds.now) l.self.places.now l.self.numbers.now l.listed l.i
