use Rattle.name_table.specs.Striking.{column, Struck}
use Rattle.name_table.proofs.strike.Given as goal

abbrev pub invariant-loop-i : goal.invariant-loop-i
invariant-loop-i l = Struck l.numbers (column l.w l.start l.width l.i) l.initial.listed l.listed
