use mathlib.Core.Path.{◌≡◌}
use Prim.Native.Nat.{◌+◌, ◌*◌}
use lib.ListN.{drop}
use Rattle.definition.specs.Model.{Model}
use Rattle.definition.specs.Table.{Table, carrying}
use Rattle.definition.specs.Align.{largest, align_within}
use Rattle.size_align.specs.Measure.{align, Reads}
use Rattle.size_align.proofs.Gathered.{Gathers}
use Rattle.size_align.proofs.Aligning.+align_within_strictest.Given as goal

abbrev pub decreases-align_within : goal.decreases-align_within
decreases-align_within l = 2 * l.levels

abbrev pub decreases-strictest : goal.decreases-strictest
decreases-strictest l = 2 * l.levels + 1

abbrev pub invariant-align_within-loop-below : goal.invariant-align_within-loop-below
invariant-align_within-loop-below l = (m : Model) (t : Table) → Reads l.self m t → align_within l.levels m t l.n ≡ align_within l.below m t l.row

abbrev pub invariant-strictest-loop-i : goal.invariant-strictest-loop-i
invariant-strictest-loop-i l = (m : Model) (t : Table) → Reads l.self m t
    → Gathers (λ k. align_within l.levels m t k) l.n t.members l.i l.left (align l.best) (largest (λ k. align_within l.levels m t k) (carrying (λ x. x.row) l.n l.initial.left (drop l.initial.i t.members)))
