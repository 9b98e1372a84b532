-- What the end of a body answers.
use Rattle.std.specs.Prelude.{List, ℕ, ℤ}
use Rattle.definition.specs.Table.{Reads}
use Rattle.definition.specs.Composite.{Body as MeantBody}
use Rattle.table.specs.Reply.{Reply, Does}
use Rattle.table.specs.declared.Cursor.{Cursor}
use Rattle.body_rows.specs.Bodies.{body_of}
use Rattle.member_entries.specs.declared.Body.{Body}

-- the body that one of the code means
abbrev pub laid : Body → MeantBody
laid b = body_of b.size b.fields

-- f is done; the values do not bear on it, and stay
pub record Closes {X : Type 0} (f : Reads X) (c : Cursor) (w d : List ℕ) (r : Reply X) (w' d' : List ℕ) : Type 0 where
  pub with : (v : List ℤ) → Does f c w d v r w' d' v
