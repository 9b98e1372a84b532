-- What a search of the rows says.
use Rattle.std.specs.Prelude.{◌≡◌, List, ℕ, Option}
use Rattle.std.proofs.Math.Option.{Option as MeantOption, none, some}
use Rattle.definition.specs.Answer.{got}
use Rattle.definition.specs.Row.{Row, kind_of, row_name}
use Rattle.definition.specs.Table.{Table, Reads, push_row}
use Rattle.definition.specs.Types.{row_named}
use Rattle.lemmas.specs.Options.{option}
use Rattle.table.specs.Held.{InWords, Indexed, Counts}
use Rattle.table.specs.declared.Cursor.{Cursor}

-- What is told of w is what f says of whatever table w holds.
pub record Says {A : Type 0} (f : Table → A) (w : List ℕ) (r : A) : Type 0 where
  pub of : (t : Table) → InWords t w → r ≡ f t

-- The same of a table with as many rows as the cursor counts, and with its index.
pub record Finds (f : Table → MeantOption ℕ) (c : Cursor) (w : List ℕ) (r : Option ℕ) : Type 0 where
  pub of : (t : Table) (h : InWords t w) → Indexed t.rows t.values h.rest → Counts t c → option r ≡ f t

-- the row of a tag, told by what its row is: the first one of its kind and name, or a new one
abbrev pub first_tag_row : Row → Reads ℕ
first_tag_row x s = elim (row_named (kind_of x) (row_name x) 0 s.table.rows) [ some n ↦ got (n, s) | none ↦ push_row x s ]
