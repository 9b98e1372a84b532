use mathlib.Core.List.{List}
use Prim.Native.Nat.{ℕ}
use Rattle.table.specs.Store.{ChangesWords}
use Rattle.open_lists.specs.Owning.{rerowed}
use Rattle.open_lists.proofs.rerow.Given as goal

-- what the rest changes is what all changes
abbrev pub invariant-loop-i : goal.invariant-loop-i
invariant-loop-i g l = (w' : List ℕ) → ChangesWords (rerowed g.E.Entries.kind l.i l.old l.row) l.c l.w w' → ChangesWords (rerowed g.E.Entries.kind l.from l.old l.row) l.c l.initial.w w'
