use Rattle.listing.proofs.Carried.{Under}
use Rattle.listing.proofs.entry_lines.Given as goal

abbrev pub invariant-loop-i : goal.invariant-loop-i
invariant-loop-i g l =
    Under (goal.R-post g l.row_of) (λ p i q. goal.L-post g l.put_line p i tt q) l.row l.fn.count l.fn.first l.entries l.initial.out l.left l.i l.out
