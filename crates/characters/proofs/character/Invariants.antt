use Prim.Native.Nat.{◌-◌, ◌≤◌, ◌<◌}
use lib.ListN.{length}
use Rattle.definition.specs.Character.{character_at}
use Rattle.characters.proofs.Constant.{Going}
use Rattle.characters.proofs.character.Given as goal

abbrev pub invariant-loop-i : goal.invariant-loop-i
invariant-loop-i l = record { within : l.i ≤ length l.text; past : l.start < l.i; going : Going l.text l.start l.i l.v (character_at l.text l.start) }

abbrev pub decreases-loop-i : goal.decreases-loop-i
decreases-loop-i l = length l.text - l.i
