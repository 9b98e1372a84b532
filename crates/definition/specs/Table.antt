-- The table, and the reader's state: where it stands among the tokens, and the table so far.
use Rattle.std.specs.Prelude.{List, [], ◌∷◌, ◌++◌, true, false, ℕ, zero, suc, ◌+◌, eqb, leb, ℤ, length, get_or}
use Rattle.std.proofs.Math.Option.{Option}
use Rattle.definition.specs.Answer.{Answer, got, refused}
use Rattle.definition.specs.Refusal.{limit_passed}
use Rattle.definition.specs.Limit.{max_rows, max_members, max_values, max_parameters, max_declarations}
use Rattle.definition.specs.Row.{Row, void}

-- Members, values and parameters are entries: "each with its row; that row is 0 where a body was replaced, an untagged body or a list
-- equals an earlier row, or a field has width 0". Until the row is known, an entry carries the mark of its list.
pub record Member : Type 0 where
  pub row : ℕ
  pub type : ℕ
  pub name : ℕ
  pub width : Option ℕ  -- of a bit-field
  pub offset : ℕ  -- in bytes; until the body is laid out, the member's offset in the text
  pub first_bit : ℕ  -- of a bit-field

pub record Value : Type 0 where
  pub row : ℕ
  pub name : ℕ
  pub value : ℤ

pub record Parameter : Type 0 where
  pub row : ℕ
  pub type : ℕ
  pub name : ℕ

-- "Each declaration carries its storage: none, typedef, extern, static or automatic."
pub data Storage : Type 0 where
  noStorage typedefStorage externStorage staticStorage autoStorage : Storage

unfoldable pub storage_number : Storage → ℕ
storage_number noStorage = 0
storage_number typedefStorage = 1
storage_number externStorage = 2
storage_number staticStorage = 3
storage_number autoStorage = 4

pub record Declaration : Type 0 where
  pub storage : Storage
  pub type : ℕ
  pub name : ℕ

-- What the conditions of demand 3 speak of: a tag's body was closed; `enum` and a tag stood without braces; a union took a bit-field
-- wider than its type. It stands in no lent slice.
pub data Event : Type 0 where
  bodied : ℕ → Event
  used : ℕ → Event
  wide : Event

pub record Table : Type 0 where
  pub rows : List Row
  pub members : List Member
  pub values : List Value
  pub parameters : List Parameter
  pub declarations : List Declaration
  pub log : List Event  -- the newest first

-- "row 0 is void and nothing else"
abbrev pub new_table : Table
new_table = record { rows = void ∷ []; members = []; values = []; parameters = []; declarations = []; log = [] }

abbrev pub with_rows : Table → List Row → Table
with_rows t rs = record { rows = rs; members = t.members; values = t.values; parameters = t.parameters; declarations = t.declarations; log = t.log }

abbrev pub with_members : Table → List Member → Table
with_members t ms = record { rows = t.rows; members = ms; values = t.values; parameters = t.parameters; declarations = t.declarations; log = t.log }

abbrev pub with_values : Table → List Value → Table
with_values t vs = record { rows = t.rows; members = t.members; values = vs; parameters = t.parameters; declarations = t.declarations; log = t.log }

abbrev pub with_parameters : Table → List Parameter → Table
with_parameters t ps = record { rows = t.rows; members = t.members; values = t.values; parameters = ps; declarations = t.declarations; log = t.log }

abbrev pub with_declarations : Table → List Declaration → Table
with_declarations t ds = record { rows = t.rows; members = t.members; values = t.values; parameters = t.parameters; declarations = ds; log = t.log }

abbrev pub logged : Table → Event → Table
logged t e = record { rows = t.rows; members = t.members; values = t.values; parameters = t.parameters; declarations = t.declarations; log = e ∷ t.log }

abbrev pub row_at : Table → ℕ → Row
row_at t n = get_or t.rows n void

-- The state, and functions that read on from one.
pub record State : Type 0 where
  pub at : ℕ
  pub table : Table

abbrev pub Reads : Type 0 → Type 0
Reads A = State → Answer (A × State)

abbrev pub moved_to : State → ℕ → State
moved_to s i = record { at = i; table = s.table }

abbrev pub skip : State → State
skip s = moved_to s (s.at + 1)

abbrev pub with_table : State → Table → State
with_table s t = record { at = s.at; table = t }

-- the mark of a list whose first entry has the number n: above every row
unfoldable pub mark_of : ℕ → ℕ
mark_of n = max_rows + n

-- the first `count` of some entries that carry a row
unfoldable pub carrying : {E : Type 0} → (E → ℕ) → ℕ → ℕ → List E → List E
carrying row_of n zero es = []
carrying row_of n (suc c) [] = []
carrying row_of n (suc c) (e ∷ es) = elim (eqb (row_of e) n) [ true ↦ e ∷ carrying row_of n c es | false ↦ carrying row_of n (suc c) es ]

-- Each push is refused where its limit would be passed, "at the next token not yet read".
unfoldable pub push_row : Row → Reads ℕ
push_row r s = elim (leb max_rows (length s.table.rows)) [
  | true ↦ refused limit_passed s.at
  | false ↦ got (length s.table.rows, with_table s (with_rows s.table (s.table.rows ++ r ∷ [])))
]

unfoldable pub push_member : Member → Reads ℕ
push_member e s = elim (leb max_members (length s.table.members)) [
  | true ↦ refused limit_passed s.at
  | false ↦ got (length s.table.members, with_table s (with_members s.table (s.table.members ++ e ∷ [])))
]

unfoldable pub push_value : Value → Reads ℕ
push_value e s = elim (leb max_values (length s.table.values)) [
  | true ↦ refused limit_passed s.at
  | false ↦ got (length s.table.values, with_table s (with_values s.table (s.table.values ++ e ∷ [])))
]

unfoldable pub push_parameter : Parameter → Reads ℕ
push_parameter e s = elim (leb max_parameters (length s.table.parameters)) [
  | true ↦ refused limit_passed s.at
  | false ↦ got (length s.table.parameters, with_table s (with_parameters s.table (s.table.parameters ++ e ∷ [])))
]

unfoldable pub push_declaration : Declaration → Reads ℕ
push_declaration d s = elim (leb max_declarations (length s.table.declarations)) [
  | true ↦ refused limit_passed s.at
  | false ↦ got (length s.table.declarations, with_table s (with_declarations s.table (s.table.declarations ++ d ∷ [])))
]
