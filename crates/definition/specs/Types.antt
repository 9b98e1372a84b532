-- `Types` (001): rows found by name or by equality, rows added, qualifiers, typedefs looked through.
use Rattle.std.specs.Prelude.{List, [], ◌∷◌, Bool, true, false, ◌&&◌, ◌||◌, not, ℕ, zero, suc, eqb, drop}
use Rattle.std.proofs.Math.Option.{Option, none, some}
use Rattle.std.specs.Int.Signed.{le_z}
use Rattle.definition.specs.Answer.{got}
use Rattle.definition.specs.Limit.{max_resolve}
use Rattle.definition.specs.RowKind.{enum_kind, function_kind, typedef_kind, qualified_kind}
use Rattle.definition.specs.Row.{Row, void, int, float, bool, pointer, array, composite, enumeration, function, typedef, qualified, Qualifiers, unqualified, Span, composite_kind, kind_of, target_of, flags_of, row_name, span_of, extent_of}
use Rattle.definition.specs.Table.{Member, Value, Parameter, Table, Reads, row_at, mark_of, carrying, push_row}

-- The row of a kind and a name, the rows being numbered from n: struct, union and enum tags and typedef names are apart.
unfoldable pub row_named : ℕ → ℕ → ℕ → List Row → Option ℕ
row_named kind name n [] = none
row_named kind name n (r ∷ rs) =
    elim (eqb (kind_of r) kind && eqb (row_name r) name) [ true ↦ some n | false ↦ row_named kind name (suc n) rs ]

abbrev pub typedef_row : Table → ℕ → Option ℕ
typedef_row t name = row_named typedef_kind name 0 t.rows

abbrev pub composite_row : Bool → Table → ℕ → Option ℕ
composite_row union t name = row_named (composite_kind union) name 0 t.rows

abbrev pub enum_row : Table → ℕ → Option ℕ
enum_row t name = row_named enum_kind name 0 t.rows

-- "Rows are equal as the Rust's types are, first bits not compared": the numbers of the rows, but for where their entries stand,
unfoldable pub same_numbers : Row → Row → Bool
same_numbers a b = eqb (kind_of a) (kind_of b) && (eqb (target_of a) (target_of b) && (eqb (flags_of a) (flags_of b)
    && (eqb (row_name a) (row_name b) && (eqb (span_of a).count (span_of b).count && eqb (extent_of a) (extent_of b)))))

-- a width as a number: 0 for a plain member, else 1 more than the width
abbrev pub width_number : Option ℕ → ℕ
width_number none = 0
width_number (some w) = suc w

unfoldable pub same_member : Member → Member → Bool
same_member a b = eqb a.type b.type && (eqb a.name b.name && (eqb (width_number a.width) (width_number b.width) && eqb a.offset b.offset))

unfoldable pub same_value : Value → Value → Bool
same_value a b = eqb a.name b.name && (le_z a.value b.value && le_z b.value a.value)

unfoldable pub same_parameter : Parameter → Parameter → Bool
same_parameter a b = eqb a.type b.type && eqb a.name b.name

-- and entry by entry what they hold.
unfoldable pub pairwise : {E : Type 0} → (E → E → Bool) → List E → List E → Bool
pairwise test [] [] = true
pairwise test [] (y ∷ ys) = false
pairwise test (x ∷ xs) [] = false
pairwise test (x ∷ xs) (y ∷ ys) = elim (test x y) [ true ↦ pairwise test xs ys | false ↦ false ]

abbrev pub members_of : Table → ℕ → Span → List Member
members_of t n e = carrying (λ x. x.row) n e.count (drop e.first t.members)

abbrev pub values_of : Table → ℕ → Span → List Value
values_of t n e = carrying (λ x. x.row) n e.count (drop e.first t.values)

abbrev pub parameters_of : Table → ℕ → Span → List Parameter
parameters_of t n e = carrying (λ x. x.row) n e.count (drop e.first t.parameters)

-- the entries of a new row r, which carry its list's mark, and of row n, which is x
unfoldable pub same_entries : Table → Row → ℕ → Row → Bool
same_entries t r n x =
    elim (eqb (kind_of r) function_kind) [
      | true ↦ pairwise same_parameter (parameters_of t (mark_of (span_of r).first) (span_of r)) (parameters_of t n (span_of x))
      | false ↦ elim (eqb (kind_of r) enum_kind) [
        | true ↦ pairwise same_value (values_of t (mark_of (span_of r).first) (span_of r)) (values_of t n (span_of x))
        | false ↦ pairwise same_member (members_of t (mark_of (span_of r).first) (span_of r)) (members_of t n (span_of x))
      ]
    ]

unfoldable pub same_row : Table → Row → ℕ → Row → Bool
same_row t r n x = elim (same_numbers r x) [ true ↦ same_entries t r n x | false ↦ false ]

-- the first row that a new one equals, the rows being numbered from n
unfoldable pub equal_row : Table → Row → ℕ → List Row → Option ℕ
equal_row t r n [] = none
equal_row t r n (x ∷ xs) = elim (same_row t r n x) [ true ↦ some n | false ↦ equal_row t r (suc n) xs ]

-- `add` of an unnamed type: an equal row, or the next one
unfoldable pub add : Row → Reads ℕ
add r s = elim (equal_row s.table r 0 s.table.rows) [ some n ↦ got (n, s) | none ↦ push_row r s ]

-- entries, from a number on, that pass a test, changed
abbrev pub changed_if : {E : Type 0} → Bool → (E → E) → E → E
changed_if true change e = change e
changed_if false change e = e

unfoldable pub changed_from : {E : Type 0} → (E → Bool) → (E → E) → ℕ → List E → List E
changed_from test change n [] = []
changed_from test change zero (e ∷ es) = changed_if (test e) change e ∷ changed_from test change zero es
changed_from test change (suc n) (e ∷ es) = e ∷ changed_from test change n es

-- `qualified`: no wrapper for no qualifier; qualifiers merge rather than nest
unfoldable pub is_unqualified : Qualifiers → Bool
is_unqualified q = not (q.const || (q.volatile || q.restrict))

unfoldable pub merged : Qualifiers → Qualifiers → Qualifiers
merged p q = record { const = p.const || q.const; volatile = p.volatile || q.volatile; restrict = p.restrict || q.restrict }

unfoldable pub qualifiers_of : Row → Qualifiers
qualifiers_of void = unqualified
qualifiers_of (int s g) = unqualified
qualifiers_of (float s) = unqualified
qualifiers_of bool = unqualified
qualifiers_of (pointer r) = unqualified
qualifiers_of (array r b) = unqualified
qualifiers_of (composite u w s e) = unqualified
qualifiers_of (enumeration w s e) = unqualified
qualifiers_of (function r v e) = unqualified
qualifiers_of (typedef w r) = unqualified
qualifiers_of (qualified r q) = q

unfoldable pub qualify : Qualifiers → ℕ → Reads ℕ
qualify q n s = elim (is_unqualified q) [
  | true ↦ got (n, s)
  | false ↦
      elim (eqb (kind_of (row_at s.table n)) qualified_kind) [
        | true ↦ add (qualified (target_of (row_at s.table n)) (merged (qualifiers_of (row_at s.table n)) q)) s
        | false ↦ add (qualified n q) s
      ]
]

-- a name for a type, or a type with qualifiers: what is looked through
unfoldable pub is_alias : Row → Bool
is_alias r = eqb (kind_of r) typedef_kind || eqb (kind_of r) qualified_kind

unfoldable pub resolve_within : ℕ → Table → ℕ → ℕ
resolve_within zero t n = n
resolve_within (suc f) t n = elim (is_alias (row_at t n)) [ true ↦ resolve_within f t (target_of (row_at t n)) | false ↦ n ]

-- "`resolve` looks through at most 64 typedefs and qualifiers"
abbrev pub resolve : Table → ℕ → ℕ
resolve t n = resolve_within max_resolve t n

-- the kind of a type, typedefs and qualifiers aside
abbrev pub resolved_kind : Table → ℕ → ℕ
resolved_kind t n = kind_of (row_at t (resolve t n))
