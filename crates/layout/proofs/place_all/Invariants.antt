use mathlib.Core.Path.{◌≡◌}
use mathlib.Core.List.{List}
use lib.IntN.{ℤ}
use lib.ListN.{length}
use Rattle.definition.specs.Table.{Table, mark_of}
use Rattle.table.specs.Held.{Encodes}
use Rattle.model.specs.Meaning.{model}
use Rattle.layout_arithmetic.specs.Outcome.{laid_of}
use Rattle.layout.specs.Lays.{placed_from}
use Rattle.layout.proofs.Laid.{Going}
use Rattle.layout.proofs.place_all.Given as goal

abbrev pub invariant-loop-i : goal.invariant-loop-i
invariant-loop-i l = ((t : Table) (v : List ℤ) → Encodes t l.c l.w l.initial.d v → Going (model l.m) t l.union (mark_of l.first) l.c l.w l.d v l.i (laid_of l.l) (placed_from (model l.m) t l.union l.first)) × (length l.d ≡ length l.initial.d)
