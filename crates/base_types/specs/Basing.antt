-- What is said of rows that words and names make.
use Rattle.std.specs.Prelude.{◌≡◌, List, ℕ, ℤ}
use Rattle.definition.specs.Row.{Row}
use Rattle.definition.specs.Types.{add}
use Rattle.table.specs.Reply.{Reply, Does}
use Rattle.table.specs.declared.Cursor.{Cursor}
use Rattle.words.specs.declared.types.BaseRow.{BaseRow}
use Rattle.words.specs.Meaning.{numbers}
use Rattle.words.specs.Plain.{Plain}

-- the row whose numbers b has is added, where it names no other, has no name and no entries
pub record AddsPlain (b : BaseRow) (c : Cursor) (w d : List ℕ) (v : List ℤ) (r : Reply ℕ) (w' d' : List ℕ) (v' : List ℤ) : Type 0 where
  pub of : (x : Row) → b ≡ numbers x → Plain x → Does (add x) c w d v r w' d' v'
