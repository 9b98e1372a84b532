-- What a note in the index does to whatever table the slice holds.
use Rattle.std.specs.Prelude.{◌≡◌, Bool, true, false, List, ℕ, ◌+◌, ◌-◌, ◌*◌, ◌≤◌, ◌<◌, eqb, length, get_or, Option as StdOption, Some, None, ⊤}
use Rattle.std.proofs.Math.Option.{Option, none, some}
use Rattle.definition.specs.Limit.{max_names}
use Rattle.definition.specs.Name.{no_name}
use Rattle.definition.specs.Region.{names_at}
use Rattle.definition.specs.Row.{void, kind_of, row_name}
use Rattle.definition.specs.Table.{Table}
use Rattle.table.specs.Held.{reading_words, row_slot, top_at, bound_of, bound_for, InWords, Bounded, Indexed}

-- a bound that is not later than it was, nor than a row
pub record Sooner (bound row r : ℕ) : Type 0 where
  pub some : 0 < row → 0 < r
  pub here : r ≤ row
  pub lower : 0 < bound → r ≤ bound

-- The number notes a row of a sort, and each of its bounds is one still, not later than it was.
pub record Lowered (sort : Bool) (row noted r : ℕ) : Type 0 where
  pub some : 0 < bound_of sort r
  pub here : bound_of sort r ≤ row
  pub still : (z : Bool) → 0 < bound_of z noted → 0 < bound_of z r
  pub lower : (z : Bool) → 0 < bound_of z noted → bound_of z r ≤ bound_of z noted

-- The number at the name's slot notes row n; no other number changes.
pub record RowNoted (kind name n : ℕ) (t : Table) (before w' : List ℕ) : Type 0 where
  pub rest : List ℕ
  pub long : length rest ≡ 2 * max_names
  pub are : w' ≡ reading_words t rest
  pub others : (j : ℕ) → (j ≡ row_slot name → ⊥) → get_or rest j 0 ≡ get_or before j 0
  pub here : Bounded kind name n (get_or rest (row_slot name) 0)
  pub still : (k : ℕ) → 0 < bound_for k (get_or before (row_slot name) 0) → 0 < bound_for k (get_or rest (row_slot name) 0)
  pub lower : (k : ℕ) → 0 < bound_for k (get_or before (row_slot name) 0) → bound_for k (get_or rest (row_slot name) 0) ≤ bound_for k (get_or before (row_slot name) 0)

pub record NotesRow (kind name n : ℕ) (w w' : List ℕ) : Type 0 where
  pub run : (t : Table) (h : InWords t w) → RowNoted kind name n t h.rest w'

-- The index is blank from the numbers of the name on, or from further on; no number but that mark changes.
pub record TopNoted (name : ℕ) (t : Table) (before w' : List ℕ) : Type 0 where
  pub rest : List ℕ
  pub long : length rest ≡ 2 * max_names
  pub are : w' ≡ reading_words t rest
  pub others : (j : ℕ) → (j ≡ top_at → ⊥) → get_or rest j 0 ≡ get_or before j 0
  pub above : row_slot name < get_or rest top_at 0
  pub still : get_or before top_at 0 ≤ get_or rest top_at 0

pub record NotesTop (name : ℕ) (w w' : List ℕ) : Type 0 where
  pub run : (t : Table) (h : InWords t w) → TopNoted name t h.rest w'

-- Where a search by a bound begins, if it may find one: at the row that it is one above.
abbrev pub from_bound : ℕ → Option ℕ
from_bound bound = elim (eqb bound 0) [ true ↦ none | false ↦ some (bound - 1) ]

-- Where a search for a row of a kind and a name begins by the index in w: for no name at the first row.
unfoldable pub first_named : ℕ → ℕ → List ℕ → Option ℕ
first_named kind name w = elim (eqb name no_name) [ true ↦ some 0 | false ↦ from_bound (bound_for kind (get_or w (names_at + row_slot name) 0)) ]

-- before where a search begins: every row, where it need not begin
abbrev pub Before : ℕ → StdOption ℕ → Type 0
Before i (Some r) = i < r
Before i None = ⊤

-- No row before r has the kind and the name: the law of `firstNamed`, by which a search may begin there.
pub record NoneBefore (kind name : ℕ) (w : List ℕ) (r : StdOption ℕ) : Type 0 where
  pub of : (t : Table) (h : InWords t w) → Indexed t.rows t.values h.rest
      → (i : ℕ) → i < length t.rows → Before i r → kind_of (get_or t.rows i void) ≡ kind → row_name (get_or t.rows i void) ≡ name → ⊥
