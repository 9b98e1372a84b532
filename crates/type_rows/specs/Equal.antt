-- What is told of a new row, whose numbers the code has, and the rows of the table that the slices hold.
use Rattle.std.specs.Prelude.{◌≡◌, Bool, List, ℕ, ℤ, Option}
use Rattle.std.proofs.Math.Option.{Option as MeantOption}
use Rattle.definition.specs.RowKind.{qualified_kind}
use Rattle.definition.specs.Row.{Row, Qualifiers, kind_of, span_of, qualifier_bits}
use Rattle.definition.specs.Table.{Table, row_at}
use Rattle.definition.specs.Types.{same_numbers, same_entries, merged, qualifiers_of}
use Rattle.table.specs.Held.{Encodes, InWords, InWides}
use Rattle.table.specs.Reply.{numbers}
use Rattle.table.specs.declared.Cursor.{Cursor}
use Rattle.table.specs.declared.Numbers.{Numbers}
use Rattle.lemmas.specs.Options.{option}

pub record NumbersSame (row : Numbers) (n : ℕ) (w d : List ℕ) (r : Bool) : Type 0 where
  pub of : (t : Table) (x : Row) → InWords t w → InWides t d → row ≡ numbers x → r ≡ same_numbers x (row_at t n)

-- of rows with as many entries
pub record EntriesSame (row : Numbers) (n : ℕ) (c : Cursor) (w d : List ℕ) (v : List ℤ) (r : Bool) : Type 0 where
  pub of : (t : Table) (x : Row) → Encodes t c w d v → row ≡ numbers x → (span_of x).count ≡ (span_of (row_at t n)).count → r ≡ same_entries t x n (row_at t n)

pub record RowSays (f : Table → Row → Bool) (row : Numbers) (c : Cursor) (w d : List ℕ) (v : List ℤ) (r : Bool) : Type 0 where
  pub of : (t : Table) (x : Row) → Encodes t c w d v → row ≡ numbers x → r ≡ f t x

pub record RowFinds (f : Table → Row → MeantOption ℕ) (row : Numbers) (c : Cursor) (w d : List ℕ) (v : List ℤ) (r : Option ℕ) : Type 0 where
  pub of : (t : Table) (x : Row) → Encodes t c w d v → row ≡ numbers x → option r ≡ f t x

-- the flags of row n, where it has qualifiers, with others
pub record MergedBits (q : Qualifiers) (n : ℕ) (w : List ℕ) (r : ℕ) : Type 0 where
  pub of : (t : Table) → InWords t w → kind_of (row_at t n) ≡ qualified_kind → r ≡ qualifier_bits (merged (qualifiers_of (row_at t n)) q)
