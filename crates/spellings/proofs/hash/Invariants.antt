use mathlib.Core.Path.{◌≡◌}
use Prim.Native.Nat.{◌<◌}
use lib.ListN.{take}
use Rattle.spellings.specs.Chain.{hashed}
use Rattle.spellings.proofs.hash.Given as goal

abbrev pub invariant-loop-b : goal.invariant-loop-b
invariant-loop-b l = record { low : l.h < 4096; value : l.h ≡ hashed (take l.b-index l.word) }
