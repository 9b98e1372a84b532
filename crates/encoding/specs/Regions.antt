-- The regions of the lent slices, in the order in which the code lists them.
use Rattle.std.specs.Prelude.{List, [], ◌∷◌, ℕ}
use Rattle.definition.specs.Region.{row_columns, member_columns, value_columns, parameter_columns, declaration_columns, name_columns, member_wide_columns, members_at, values_at, parameters_at, declarations_at, names_at, member_wides_at, words_length, wides_length, signeds_length}

abbrev pub columns : List ℕ
columns = row_columns ∷ member_columns ∷ value_columns ∷ parameter_columns ∷ declaration_columns ∷ name_columns ∷ member_wide_columns ∷ []

abbrev pub starts : List ℕ
starts = members_at ∷ values_at ∷ parameters_at ∷ declarations_at ∷ names_at ∷ member_wides_at ∷ []

abbrev pub lengths : List ℕ
lengths = words_length ∷ wides_length ∷ signeds_length ∷ []
