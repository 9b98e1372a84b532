-- What holds of every accepted table: its limits are kept, and every row that it names is one of its rows.
use Rattle.std.specs.Prelude.{◌≡◌, ℕ, ◌≤◌, ◌<◌, pos, length, get_or}
use Rattle.std.proofs.Math.Option.{none}
use Rattle.definition.specs.Limit.{max_rows, max_members, max_values, max_parameters, max_declarations, max_names}
use Rattle.definition.specs.Row.{void, target_of}
use Rattle.definition.specs.Table.{Member, Value, Parameter, Declaration, noStorage, Table, row_at}
use Rattle.definition.specs.Entry.{Accepted}

-- "1,024 type rows, 1,024 declarations, 4,096 members, 4,096 enumerators and 4,096 parameters"
pub record WithinLimits (t : Table) : Type 0 where
  pub rows : length t.rows ≤ max_rows
  pub members : length t.members ≤ max_members
  pub values : length t.values ≤ max_values
  pub parameters : length t.parameters ≤ max_parameters
  pub declarations : length t.declarations ≤ max_declarations

-- the entries by their numbers
abbrev pub member_at : Table → ℕ → Member
member_at t i = get_or t.members i (record { row = 0; type = 0; name = 0; width = none; offset = 0; first_bit = 0 })

abbrev pub value_at : Table → ℕ → Value
value_at t i = get_or t.values i (record { row = 0; name = 0; value = pos 0 })

abbrev pub parameter_at : Table → ℕ → Parameter
parameter_at t i = get_or t.parameters i (record { row = 0; type = 0; name = 0 })

abbrev pub declaration_at : Table → ℕ → Declaration
declaration_at t i = get_or t.declarations i (record { storage = noStorage; type = 0; name = 0 })

pub record Inside (t : Table) : Type 0 where
  pub limits : WithinLimits t
  -- "row 0 is void", and every other row names lower ones, so that sizes and walks through typedefs end
  pub some_row : 0 < length t.rows
  pub void_first : row_at t 0 ≡ void
  pub lower : (i : ℕ) → 0 < i → i < length t.rows → target_of (row_at t i) < i
  -- "each with its row", or with 0: no entry is left with the mark of a list
  pub member_row : (i : ℕ) → i < length t.members → (member_at t i).row < length t.rows
  pub value_row : (i : ℕ) → i < length t.values → (value_at t i).row < length t.rows
  pub parameter_row : (i : ℕ) → i < length t.parameters → (parameter_at t i).row < length t.rows
  -- types are rows
  pub member_type : (i : ℕ) → i < length t.members → (member_at t i).type < length t.rows
  pub parameter_type : (i : ℕ) → i < length t.parameters → (parameter_at t i).type < length t.rows
  pub declaration_type : (i : ℕ) → i < length t.declarations → (declaration_at t i).type < length t.rows

-- What a call accepts: such a table, and "the name table has 16,384 entries, which no text can pass".
pub record Acceptable (a : Accepted) : Type 0 where
  pub inside : Inside a.table
  pub names : length a.names ≤ max_names
