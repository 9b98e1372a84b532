use Rattle.encoding.specs.Kinds.{kind_numbers}
use Rattle.name_table.proofs.Filling.{Written}
use Rattle.name_table.proofs.Tokens.write.Given as goal

abbrev pub invariant-loop-i : goal.invariant-loop-i
invariant-loop-i l = Written (kind_numbers l.self.kinds.now) l.self.places.now l.self.numbers.now l.listed l.initial.w l.i l.count l.w
