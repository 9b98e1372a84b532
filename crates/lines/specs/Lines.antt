-- What a function over the lent slices wrote or read, for whatever table they hold.
use Rattle.std.specs.Prelude.{◌≡◌, List, ℕ}
use Rattle.definition.specs.Text.{Bytes}
use Rattle.definition.specs.Table.{Table, row_at}
use Rattle.table.specs.declared.Numbers.{Numbers}
use Rattle.table.specs.Held.{InWords, InWides}
use Rattle.table.specs.Reply.{numbers}
use Rattle.printing.specs.declared.Writer.{Writer}
use Rattle.printing.specs.Written.{Keeps, Writes}

-- The bytes that f says of any e of which `is` holds; the writer keeps its buffer.
pub record WritesAs {E : Type 0} (is : E → Type 0) (f : E → Bytes) (o o' : Writer) : Type 0 where
  pub kept : Keeps o o'
  pub of : (e : E) → is e → Writes (f e) o o'

-- The numbers are those of row n.
pub record NumbersAre (n : ℕ) (w d : List ℕ) (r : Numbers) : Type 0 where
  pub of : (t : Table) → InWords t w → InWides t d → r ≡ numbers (row_at t n)
