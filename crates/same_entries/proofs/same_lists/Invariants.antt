use mathlib.Core.Bool.{Bool}
use Prim.Native.Nat.{◌-◌}
use Rattle.same_entries.specs.Entries.{Pairs}
use Rattle.same_entries.proofs.same_lists.Given as goal

-- what is answered of the rest is the answer
abbrev pub invariant-loop : goal.invariant-loop
invariant-loop g l =
    (r : Bool) → Pairs (goal.R-post g l.row_of) (goal.S-post g l.same) l.count l.mark l.i l.row l.j (l.entries - l.counter) r
    → Pairs (goal.R-post g l.row_of) (goal.S-post g l.same) l.count l.mark l.first l.row l.other l.entries r
