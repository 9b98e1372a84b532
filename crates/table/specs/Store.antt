-- What the stores do, in the definition's terms.
use Rattle.std.specs.Prelude.{◌≡◌, List, [], ◌∷◌, ℕ, suc, ℤ, ◌+◌, ◌*◌, set}
use Rattle.std.proofs.Math.Option.{Option}
use Rattle.definition.specs.Row.{Row}
use Rattle.definition.specs.Table.{Table, Reads, with_rows, with_members, with_values, with_parameters, push_member, push_value, push_parameter}
use Rattle.definition.specs.Layout.{located}
use Rattle.definition.specs.Composite.{with_row}
use Rattle.definition.specs.Enumeration as Enumeration
use Rattle.table.specs.Held.{member_at, value_at, parameter_at}
use Rattle.table.specs.Reply.{Changes}
use Rattle.table.specs.Noting.{NotesRow, NotesTop}
use Rattle.table.specs.declared.Cursor.{Cursor}
use Rattle.table.specs.declared.Numbers.{Numbers}

abbrev pub member_pushed : ℕ → ℕ → ℕ → ℕ → Option ℕ → Reads ℕ
member_pushed row type name offset width = push_member (record { row = row; type = type; name = name; width = width; offset = offset; first_bit = 0 })

abbrev pub value_pushed : ℕ → ℕ → ℤ → Reads ℕ
value_pushed row name value = push_value (record { row = row; name = name; value = value })

abbrev pub parameter_pushed : ℕ → ℕ → ℕ → Reads ℕ
parameter_pushed row type name = push_parameter (record { row = row; type = type; name = name })

-- numbers stored one after the other: the first at b + j
abbrev pub stores : {E : Type 0} → List E → ℕ → ℕ → List E → List E
stores l b j [] = l
stores l b j (x ∷ xs) = stores (set l (b + j) x) b (suc j) xs

-- the first at b
abbrev pub stored : {E : Type 0} → List E → ℕ → List E → List E
stored l b [] = l
stored l b (x ∷ xs) = stores (set l b x) b 1 xs

-- the numbers of a row in the 32-bit slice
abbrev pub number_list : Numbers → List ℕ
number_list r = r.kind ∷ r.target ∷ r.flags ∷ r.name ∷ r.first ∷ r.count ∷ []

-- Row n is put, after its name and its kind were noted in the index.
pub record RowPut (n : ℕ) (r : Numbers) (w d w' d' : List ℕ) : Type 0 where
  pub topped : List ℕ
  pub noted : List ℕ
  pub notes_top : NotesTop r.name w topped
  pub notes_row : NotesRow r.kind r.name n topped noted
  pub words : w' ≡ stored noted (6 * n) (number_list r)
  pub wides : d' ≡ set d n r.extent

-- nothing changes past the last
abbrev pub row_set : ℕ → Row → Table → Table
row_set n x t = with_rows t (set t.rows n x)

abbrev pub member_row_set : ℕ → ℕ → Table → Table
member_row_set i row t = with_members t (set t.members i (with_row (member_at t i) row))

abbrev pub member_place_set : ℕ → ℕ → ℕ → Table → Table
member_place_set i offset first_bit t = with_members t (set t.members i (located (member_at t i) offset first_bit))

abbrev pub value_row_set : ℕ → ℕ → Table → Table
value_row_set i row t = with_values t (set t.values i (Enumeration.with_row (value_at t i) row))

abbrev pub parameter_row_set : ℕ → ℕ → Table → Table
parameter_row_set i row t = with_parameters t (set t.parameters i (record { row = row; type = (parameter_at t i).type; name = (parameter_at t i).name }))

-- A change that only one of the slices shows.
pub record ChangesWords (f : Table → Table) (c : Cursor) (w w' : List ℕ) : Type 0 where
  pub with : (d : List ℕ) (v : List ℤ) → Changes f c w d v w' d v

pub record ChangesWides (f : Table → Table) (c : Cursor) (d d' : List ℕ) : Type 0 where
  pub with : (w : List ℕ) (v : List ℤ) → Changes f c w d v w d' v
