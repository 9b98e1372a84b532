-- The regions of the lent slices: each kind of entry has one, with as many numbers to an entry as it has columns there, one entry after the other.
use Rattle.std.specs.Prelude.{ℕ, ◌+◌, ◌*◌}
use Rattle.definition.specs.Limit.{max_rows, max_members, max_values, max_parameters, max_declarations, max_names}

-- ---- 32-bit numbers

abbrev pub row_columns : ℕ
row_columns = 6

abbrev pub member_columns : ℕ
member_columns = 4

abbrev pub value_columns : ℕ
value_columns = 2

abbrev pub parameter_columns : ℕ
parameter_columns = 3

abbrev pub declaration_columns : ℕ
declaration_columns = 3

abbrev pub name_columns : ℕ
name_columns = 2

-- rows begin at 0, and each region where the one before it ends
abbrev pub members_at : ℕ
members_at = row_columns * max_rows

abbrev pub values_at : ℕ
values_at = members_at + member_columns * max_members

abbrev pub parameters_at : ℕ
parameters_at = values_at + value_columns * max_values

abbrev pub declarations_at : ℕ
declarations_at = parameters_at + parameter_columns * max_parameters

abbrev pub names_at : ℕ
names_at = declarations_at + declaration_columns * max_declarations

abbrev pub words_length : ℕ
words_length = names_at + name_columns * max_names

-- ---- 64-bit numbers: one for a row

abbrev pub member_wide_columns : ℕ
member_wide_columns = 2

abbrev pub member_wides_at : ℕ
member_wides_at = max_rows

abbrev pub wides_length : ℕ
wides_length = member_wides_at + member_wide_columns * max_members

-- ---- signed 64-bit numbers: one for a value

abbrev pub signeds_length : ℕ
signeds_length = max_values
