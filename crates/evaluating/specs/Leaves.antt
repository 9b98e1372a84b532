-- What a reader that changes no slice does.
use Rattle.std.specs.Prelude.{List, ℕ, ℤ}
use Rattle.definition.specs.Model.{Model}
use Rattle.definition.specs.Table.{Reads}
use Rattle.table.specs.Reply.{Reply, Does}
use Rattle.table.specs.declared.Cursor.{Cursor}

-- A reply is what f says, under every data model; the slices stay, and the 64-bit numbers do not bear on it.
pub record Leaves {X : Type 0} (f : Model → Reads X) (c : Cursor) (w : List ℕ) (v : List ℤ) (r : Reply X) : Type 0 where
  pub with : (m : Model) (d : List ℕ) → Does (f m) c w d v r w d v
