-- What the functions of the listing write, for whatever table the slices hold.
use Rattle.std.specs.Prelude.{◌≡◌, List, ℕ, ◌-◌, length}
use Rattle.std.specs.Borrow.{MutBor}
use Rattle.std.specs.List.{range_with_len}
use Rattle.definition.specs.Text.{Bytes}
use Rattle.definition.specs.Table.{Table, carrying}
use Rattle.definition.specs.Lent.{flat}
use Rattle.table.specs.Held.{InWords}
use Rattle.printing.specs.declared.Writer.{Writer}
use Rattle.printing.specs.Written.{Keeps, Writes}

-- the slice holds the declarations of t, and there are as many as the code was told
abbrev pub HoldDeclarations : List ℕ → ℕ → Table → Type 0
HoldDeclarations w declarations t = InWords t w × (declarations ≡ length t.declarations)

-- the lines of the entries that carry row n, from `first` on and below `end`, and no more than `count`
abbrev pub carried : (ℕ → ℕ) → (ℕ → Bytes) → ℕ → ℕ → ℕ → ℕ → Bytes
carried rows lines n count first end = flat lines (carrying rows n count (range_with_len first (end - first)))

-- A function writes them where one that it calls says the row of an entry, and one writes its line.
pub record WritesEntries (row_of : ℕ → ℕ → Type 0) (line : MutBor Writer → ℕ → MutBor Writer → Type 0) (n count first end : ℕ) (o o' : Writer) : Type 0 where
  pub kept : ((i : ℕ) (p q : MutBor Writer) → line p i q → Keeps p.now q.now) → Keeps o o'
  pub of : (rows : ℕ → ℕ) (lines : ℕ → Bytes) → ((i k : ℕ) → row_of i k → k ≡ rows i) → ((i : ℕ) (p q : MutBor Writer) → line p i q → Writes (lines i) p.now q.now)
      → Writes (carried rows lines n count first end) o o'
