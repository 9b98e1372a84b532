-- Enumerations (C11 6.7.2.2): `enumeration` (000).
use Rattle.std.specs.Prelude.{List, [], ◌∷◌, Bool, true, false, ◌&&◌, ℕ, zero, suc, ◌-◌, eqb, ℤ, pos, negsuc, length, set, drop}
use Rattle.std.proofs.Math.Option.{Option, none, some}
use Rattle.std.proofs.Math.IntN.{suc_ℤ}
use Rattle.std.specs.Int.Signed.{le_z}
use Rattle.definition.specs.Answer.{Answer, got, refused, ◌>>=◌}
use Rattle.definition.specs.Refusal.{missing_mark, missing_name, fixed_enum}
use Rattle.definition.specs.Kind.{is_name, open_brace, close_brace, colon, comma, equals}
use Rattle.definition.specs.Name.{no_name}
use Rattle.definition.specs.Token.{Tokens, kind_at, number_at, left}
use Rattle.definition.specs.Range.{ranged}
use Rattle.definition.specs.Model.{Model}
use Rattle.definition.specs.Row.{Row, enumeration, Span, nothing, span_of}
use Rattle.definition.specs.Table.{Value, Table, State, Reads, bodied, used, row_at, skip, with_table, with_rows, with_values, logged, mark_of, push_row, push_value}
use Rattle.definition.specs.Types.{enum_row, equal_row, changed_from}
use Rattle.definition.specs.Grammar.{Levels, stands, needed}

-- the value of an enumerator's name: "the last enumerator of a spelling winning"
unfoldable pub value_named : ℕ → List Value → Option ℤ
value_named w [] = none
value_named w (v ∷ vs) = elim (value_named w vs) [ some z ↦ some z | none ↦ elim (eqb v.name w) [ true ↦ some v.value | false ↦ none ] ]

-- ---- an enum's values get their row

abbrev pub with_row : Value → ℕ → Value
with_row e n = record { row = n; name = e.name; value = e.value }

unfoldable pub own_values : ℕ → ℕ → List Value → List Value
own_values first n vs = changed_from (λ e. eqb e.row (mark_of first)) (λ e. with_row e n) first vs

-- the values of a body that was replaced carry row 0
unfoldable pub release_values : Row → ℕ → List Value → List Value
release_values old n vs = elim (eqb (span_of old).count 0) [
  | true ↦ vs
  | false ↦ changed_from (λ e. eqb e.row n) (λ e. with_row e 0) 0 vs
]

-- "An enum is 4 bytes if all values lie in -2^31 to 2^32 - 1, else 8."
unfoldable pub all_fit : List Value → Bool
all_fit [] = true
all_fit (v ∷ vs) = le_z (negsuc 2147483647) v.value && (le_z v.value (pos 4294967295) && all_fit vs)

unfoldable pub enum_bytes : Model → List Value → ℕ
enum_bytes m vs = elim (all_fit vs) [ true ↦ m.enum_size | false ↦ 8 ]

-- the values read from number `first` on
abbrev pub values_since : ℕ → Table → Span
values_since first t = record { first = first; count = length t.values - first }

-- the row of a tag: the one that it has, or a new one without values
unfoldable pub enum_tag_row : ℕ → ℕ → Reads ℕ
enum_tag_row bytes w s = elim (enum_row s.table w) [ some n ↦ got (n, s) | none ↦ push_row (enumeration w bytes nothing) s ]

-- the body of tag w, whose row is n
unfoldable pub define_enum : ℕ → ℕ → ℕ → Span → State → State
define_enum w n bytes e s = with_table s (logged
    (with_values (with_rows s.table (set s.table.rows n (enumeration w bytes e)))
    (own_values e.first n (release_values (row_at s.table n) n s.table.values))) (bodied w))

abbrev pub values_owned : ℕ → ℕ → State → State
values_owned first n s = with_table s (with_values s.table (own_values first n s.table.values))

-- a body without a tag: an equal row, and then its values carry row 0, or a new one
unfoldable pub add_enum : ℕ → Span → Reads ℕ
add_enum bytes e s = elim (equal_row s.table (enumeration no_name bytes e) 0 s.table.rows) [
  | some n ↦ got (n, values_owned e.first 0 s)
  | none ↦ (do
    r ← push_row (enumeration no_name bytes e) s
    got (r.0, values_owned e.first r.0 r.1))
]

-- `enum` and a tag without braces, noted for the conditions of demand 3; `enum` alone is refused
unfoldable pub bare_enum : Model → ℕ → ℕ → Reads ℕ
bare_enum m w at s = elim (eqb w no_name) [
  | true ↦ refused missing_name at
  | false ↦ (do
    r ← enum_tag_row m.enum_size w s
    got (r.0, with_table r.1 (logged r.1.table (used w))))
]

unfoldable pub close_enum : ℕ → ℕ → Span → Reads ℕ
close_enum w bytes e s = elim (eqb w no_name) [
  | true ↦ add_enum bytes e s
  | false ↦ (do
    r ← enum_tag_row bytes w s
    got (r.0, define_enum w r.0 bytes e r.1))
]

module _ (ts : Tokens) (m : Model) (next : Levels) where
  -- `= constant`, or the value after the one before
  unfoldable pub enumerator_value : ℤ → Reads ℤ
  enumerator_value value s = elim (stands ts equals s) [ true ↦ next.constant (skip s) | false ↦ got (value, s) ]

  -- one enumerator, at a name: its value, which must be in range
  unfoldable pub enumerator : ℕ → ℤ → Reads ℤ
  enumerator first value s = elim (is_name (kind_at ts s.at)) [
    | false ↦ refused missing_mark s.at
    | true ↦ (do
      v ← enumerator_value value (skip s)
      x ← ranged s.at v.0
      e ← push_value (record { row = mark_of first; name = number_at ts s.at; value = x }) v.1
      got (x, e.1))
  ]

  -- enumerators up to the closing brace; each round reads one
  unfoldable pub enumerators_from : ℕ → ℕ → ℤ → State → Answer State
  enumerators_from zero first value s = refused missing_mark s.at
  enumerators_from (suc f) first value s = elim (stands ts close_brace s) [
    | true ↦ got (skip s)
    | false ↦ (do
      e ← enumerator first value s
      elim (stands ts comma e.1) [
        | true ↦ enumerators_from f first (suc_ℤ e.0) (skip e.1)
        | false ↦ needed ts close_brace e.1
      ])
  ]

  -- a body after its brace, of tag w or of none
  unfoldable pub enum_body : ℕ → Reads ℕ
  enum_body w s = let first = length s.table.values in do
    s₁ ← enumerators_from (suc (left ts s.at)) first (pos 0) s
    close_enum w (enum_bytes m (drop first s₁.table.values)) (values_since first s₁.table) s₁

  -- what follows the tag, if any; `at` is the tag's place
  unfoldable pub after_tag : ℕ → ℕ → Reads ℕ
  after_tag w at s =
      elim (stands ts colon s) [
        | true ↦ refused fixed_enum at
        | false ↦
            elim (stands ts open_brace s) [ true ↦ enum_body w (skip s) | false ↦ bare_enum m w at s ]
      ]

  -- after `enum`
  unfoldable pub enumeration₁ : Reads ℕ
  enumeration₁ s = elim (is_name (kind_at ts s.at)) [
    | true ↦ after_tag (number_at ts s.at) s.at (skip s)
    | false ↦ after_tag no_name s.at s
  ]
