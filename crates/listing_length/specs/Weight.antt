-- How long the names of a table are together, and a length that no listing passes.
use Rattle.std.specs.Prelude.{List, [], ◌∷◌, ℕ, ◌+◌, ◌*◌}
use Rattle.definition.specs.Limit.{max_text, max_rows, max_members, max_values, max_parameters, max_declarations}
use Rattle.definition.specs.Name.{length_of}
use Rattle.definition.specs.Row.{Row, row_name}
use Rattle.definition.specs.Table.{Member, Value, Parameter, Declaration, Table}

unfoldable pub sum_of : {E : Type 0} → (E → ℕ) → List E → ℕ
sum_of f [] = 0
sum_of f (x ∷ xs) = f x + sum_of f xs

-- the bytes of the name that an entry holds
abbrev pub row_bytes : Row → ℕ
row_bytes r = length_of (row_name r)

abbrev pub member_bytes : Member → ℕ
member_bytes e = length_of e.name

abbrev pub value_bytes : Value → ℕ
value_bytes e = length_of e.name

abbrev pub parameter_bytes : Parameter → ℕ
parameter_bytes e = length_of e.name

abbrev pub declaration_bytes : Declaration → ℕ
declaration_bytes d = length_of d.name

unfoldable pub weight : Table → ℕ
weight t = sum_of row_bytes t.rows + sum_of member_bytes t.members + sum_of value_bytes t.values
    + sum_of parameter_bytes t.parameters + sum_of declaration_bytes t.declarations

-- what is in a line of each kind beside its name, at most
abbrev pub row_length : ℕ
row_length = 66

abbrev pub member_length : ℕ
member_length = 59

abbrev pub value_length : ℕ
value_length = 29

abbrev pub parameter_length : ℕ
parameter_length = 13

abbrev pub declaration_length : ℕ
declaration_length = 20

-- the lines of a table at its limits, without the names
abbrev pub lines_only : ℕ
lines_only = row_length * max_rows + member_length * max_members + value_length * max_values + parameter_length * max_parameters + declaration_length * max_declarations

-- 567,296 bytes: a name that is read once stands in two lines at most, as a typedef's does in its row and its declaration.
abbrev pub max_listing : ℕ
max_listing = lines_only + 2 * max_text
