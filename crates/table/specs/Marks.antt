-- Marks that must stand where a cursor is.
use Rattle.std.specs.Prelude.{List, ℕ, ℤ, Result}
use Rattle.definition.specs.Grammar.{needed}
use Rattle.encoding.specs.declared.refusals.Refusal.{Refusal}
use Rattle.table.specs.declared.Cursor.{Cursor}
use Rattle.table.specs.Reply.{reply_alone, Moves}

-- A mark is passed, or it is missing, whatever the numbers of the tokens are and whatever the slices hold: they stay.
pub record Passes (ks : List ℕ) (mark : ℕ) (c : Cursor) (r : Result Cursor Refusal) : Type 0 where
  pub with : (ns w d : List ℕ) (v : List ℤ) → Moves (needed (record { kinds = ks; numbers = ns }) mark) c w d v (reply_alone r) w d v
