-- The lent slices: which number of the table stands in which entry. Each kind of entry has a region of its own, one entry after the other,
-- and zeros after the last; all is zero on refusal.
use Rattle.std.specs.Prelude.{List, [], ◌∷◌, ◌++◌, Bool, ◌&&◌, ℕ, ◌-◌, ◌*◌, leb, ℤ, pos, length, replicate}
use Rattle.definition.specs.Limit.{max_rows, max_members, max_values, max_parameters, max_declarations, max_names}
use Rattle.definition.specs.Region.{row_columns, member_columns, value_columns, parameter_columns, declaration_columns, name_columns, member_wide_columns, words_length, wides_length, signeds_length}
use Rattle.definition.specs.Name.{offset_of, length_of}
use Rattle.definition.specs.Row.{Row, kind_of, target_of, flags_of, row_name, span_of, extent_of}
use Rattle.definition.specs.Table.{Member, Value, Parameter, Declaration, storage_number, Table}
use Rattle.definition.specs.Types.{width_number}
use Rattle.definition.specs.Entry.{Accepted, Outcome, accepted, rejected}

-- n numbers: these, and z for the rest
unfoldable pub padded : {E : Type 0} → E → ℕ → List E → List E
padded z n xs = xs ++ replicate (n - length xs) z

-- the numbers of each, one after the other
unfoldable pub flat : {A E : Type 0} → (A → List E) → List A → List E
flat f [] = []
flat f (x ∷ xs) = f x ++ flat f xs

-- ---- 32-bit numbers

abbrev pub row_words : Row → List ℕ
row_words r = kind_of r ∷ target_of r ∷ flags_of r ∷ row_name r ∷ (span_of r).first ∷ (span_of r).count ∷ []

abbrev pub member_words : Member → List ℕ
member_words e = e.row ∷ e.type ∷ e.name ∷ width_number e.width ∷ []

abbrev pub value_words : Value → List ℕ
value_words e = e.row ∷ e.name ∷ []

abbrev pub parameter_words : Parameter → List ℕ
parameter_words e = e.row ∷ e.type ∷ e.name ∷ []

abbrev pub declaration_words : Declaration → List ℕ
declaration_words d = storage_number d.storage ∷ d.type ∷ d.name ∷ []

abbrev pub name_words : ℕ → List ℕ
name_words n = offset_of n ∷ length_of n ∷ []

unfoldable pub table_words : Table → List ℕ
table_words t = padded 0 (row_columns * max_rows) (flat row_words t.rows)
    ++ padded 0 (member_columns * max_members) (flat member_words t.members)
    ++ padded 0 (value_columns * max_values) (flat value_words t.values)
    ++ padded 0 (parameter_columns * max_parameters) (flat parameter_words t.parameters)
    ++ padded 0 (declaration_columns * max_declarations) (flat declaration_words t.declarations)

unfoldable pub words : Accepted → List ℕ
words a = table_words a.table ++ padded 0 (name_columns * max_names) (flat name_words a.names)

-- ---- 64-bit numbers

abbrev pub row_wides : Row → List ℕ
row_wides r = extent_of r ∷ []

abbrev pub member_wides : Member → List ℕ
member_wides e = e.offset ∷ e.first_bit ∷ []

unfoldable pub wides : Table → List ℕ
wides t = padded 0 max_rows (flat row_wides t.rows) ++ padded 0 (member_wide_columns * max_members) (flat member_wides t.members)

-- ---- signed 64-bit numbers

abbrev pub value_signeds : Value → List ℤ
value_signeds e = e.value ∷ []

unfoldable pub signeds : Table → List ℤ
signeds t = padded (pos 0) max_values (flat value_signeds t.values)

-- ---- what a call leaves in slices of any length

pub record Lent : Type 0 where
  pub words : List ℕ
  pub wides : List ℕ
  pub signeds : List ℤ

unfoldable pub long_enough : Lent → Bool
long_enough l = leb words_length (length l.words) && (leb wides_length (length l.wides) && leb signeds_length (length l.signeds))

unfoldable pub zeroed : Lent → Lent
zeroed l = record { words = replicate (length l.words) 0; wides = replicate (length l.wides) 0; signeds = replicate (length l.signeds) (pos 0) }

-- "unused entries zero"; on refusal "zero in every lent table", whatever stood there and however long it is
unfoldable pub left_in : Lent → Outcome → Lent
left_in l (accepted a) = record {
  words = padded 0 (length l.words) (words a);
  wides = padded 0 (length l.wides) (wides a.table);
  signeds = padded (pos 0) (length l.signeds) (signeds a.table);
}
left_in l (rejected n at line column) = zeroed l
