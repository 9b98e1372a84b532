-- Structs and unions (C11 6.7.2.1): `composite` and `members` (000).
use Rattle.std.specs.Prelude.{List, [], ◌∷◌, Bool, true, false, ◌&&◌, ◌||◌, not, ℕ, zero, suc, eqb, leb, ℤ, pos, negsuc, length, set, drop}
use Rattle.std.proofs.Math.Option.{Option, none, some}
use Rattle.definition.specs.Answer.{Answer, got, refused, ◌>>=◌}
use Rattle.definition.specs.Refusal.{missing_mark, missing_name, member_storage, bad_width}
use Rattle.definition.specs.Kind.{is_name, end, open_brace, close_brace, semicolon, colon, comma}
use Rattle.definition.specs.Name.{no_name}
use Rattle.definition.specs.Token.{Tokens, kind_at, number_at, left}
use Rattle.definition.specs.Model.{Model}
use Rattle.definition.specs.RowKind.{struct_kind, union_kind}
use Rattle.definition.specs.Row.{Row, composite, Span, nothing, span_of}
use Rattle.definition.specs.Table.{Member, Table, State, Reads, storage_number, noStorage, bodied, wide, row_at, skip, with_table, with_rows, with_members, logged, mark_of, push_row, push_member}
use Rattle.definition.specs.Types.{composite_row, equal_row, resolved_kind, changed_from}
use Rattle.definition.specs.Layout.{layout, none_wide}
use Rattle.definition.specs.Grammar.{Levels, stands, needed}
use Rattle.definition.specs.Specifiers.{specifiers, base_type}
use Rattle.definition.specs.Declarator.{apply}

-- ---- a body's members get their row

abbrev pub with_row : Member → ℕ → Member
with_row e n = record { row = n; type = e.type; name = e.name; width = e.width; offset = e.offset; first_bit = e.first_bit }

-- the fields of a body, from number `first` on, get its row
unfoldable pub own_members : ℕ → ℕ → List Member → List Member
own_members first n ms = changed_from (λ e. eqb e.row (mark_of first)) (λ e. with_row e n) first ms

-- a member of width 0 is no field
abbrev pub is_field : Option ℕ → Bool
is_field none = true
is_field (some zero) = false
is_field (some (suc w)) = true

-- and carries row 0 as soon as the body is laid out
unfoldable pub fields_only : ℕ → List Member → List Member
fields_only first ms = changed_from (λ e. eqb e.row (mark_of first) && not (is_field e.width)) (λ e. with_row e 0) first ms

-- the members of a body that was replaced carry row 0
unfoldable pub release_members : Row → ℕ → List Member → List Member
release_members old n ms = elim (eqb (span_of old).count 0) [
  | true ↦ ms
  | false ↦ changed_from (λ e. eqb e.row n) (λ e. with_row e 0) 0 ms
]

-- how many of some entries carry a mark
unfoldable pub how_many_carry : ℕ → List Member → ℕ
how_many_carry mark [] = 0
how_many_carry mark (e ∷ es) = elim (eqb e.row mark) [ true ↦ suc (how_many_carry mark es) | false ↦ how_many_carry mark es ]

-- A body that was laid out: its size, and where its fields stand.
pub record Body : Type 0 where
  pub size : ℕ
  pub fields : Span

-- the body of a size whose fields are among some entries
abbrev pub laid_body : ℕ → ℕ → List Member → Body
laid_body first size ms = record { size = size; fields = record { first = first; count = how_many_carry (mark_of first) (drop first ms) } }

-- the body of tag w, whose row is n
unfoldable pub define_body : Bool → ℕ → ℕ → Body → State → State
define_body union w n b s = with_table s (logged
    (with_members (with_rows s.table (set s.table.rows n (composite union w (some b.size) b.fields)))
    (own_members b.fields.first n (release_members (row_at s.table n) n s.table.members))) (bodied w))

abbrev pub members_owned : ℕ → ℕ → State → State
members_owned first n s = with_table s (with_members s.table (own_members first n s.table.members))

-- a body without a tag: an equal row, and then its entries carry row 0, or a new one
unfoldable pub add_body : Bool → Body → Reads ℕ
add_body union b s = let r = composite union no_name (some b.size) b.fields in
    elim (equal_row s.table r 0 s.table.rows) [
      | some n ↦ got (n, members_owned b.fields.first 0 s)
      | none ↦ (do
        n ← push_row r s
        got (n.0, members_owned b.fields.first n.0 n.1))
    ]

-- the row of a tag: the one that it has, or a new one without a body
unfoldable pub tag_row : Bool → ℕ → Reads ℕ
tag_row union w s = elim (composite_row union s.table w) [ some n ↦ got (n, s) | none ↦ push_row (composite union w none nothing) s ]

-- ---- reading members

-- "bit-field width outside 0 to 64"
abbrev pub width_of : ℤ → ℕ → Answer ℕ
width_of (pos n) at = elim (leb n 64) [ true ↦ got n | false ↦ refused bad_width at ]
width_of (negsuc n) at = refused bad_width at

unfoldable pub is_composite : ℕ → Bool
is_composite kind = eqb kind struct_kind || eqb kind union_kind

-- a member of the body whose first entry is `first`, not yet laid out; `at` is its place in the text
abbrev pub fresh : ℕ → ℕ → ℕ → Option ℕ → ℕ → Member
fresh first type name width at = record { row = mark_of first; type = type; name = name; width = width; offset = at; first_bit = 0 }

-- layout's note for the conditions of demand 3
unfoldable pub noted : Bool → Table → Table
noted true t = t
noted false t = logged t wide

module _ (ts : Tokens) (m : Model) (next : Levels) where
  -- `: width`, where it stands
  unfoldable pub bit_width : ℕ → State → Answer (Option ℕ × State)
  bit_width at s = elim (stands ts colon s) [
    | false ↦ got (none, s)
    | true ↦ (do
      v ← next.constant (skip s)
      w ← width_of v.0 at
      got (some w, v.1))
  ]

  -- an unnamed bit-field, or a declarator with or without a width
  unfoldable pub member_declarator : ℕ → ℕ → State → Answer State
  member_declarator first b s = elim (stands ts colon s) [
    | true ↦ (do
      w ← bit_width s.at s
      e ← push_member (fresh first b no_name w.0 s.at) w.1
      got e.1)
    | false ↦ (do
      d ← next.declarator 0 s
      r ← apply d.0.steps b d.1
      w ← bit_width s.at r.1
      elim (eqb d.0.name no_name) [
        | true ↦ refused missing_name s.at
        | false ↦ (do
          e ← push_member (fresh first r.0 d.0.name w.0 s.at) w.1
          got e.1)
      ])
  ]

  -- the declarators of one member declaration; each round reads one
  unfoldable pub member_declarators : ℕ → ℕ → ℕ → State → Answer State
  member_declarators zero first b s = refused missing_mark s.at
  member_declarators (suc f) first b s = do
    s₁ ← member_declarator first b s
    elim (stands ts comma s₁) [ true ↦ member_declarators f first b (skip s₁) | false ↦ needed ts semicolon s₁ ]

  -- an anonymous member is a struct or union; at its place
  unfoldable pub anonymous_member : ℕ → ℕ → ℕ → State → Answer State
  anonymous_member first b at s = elim (is_composite (resolved_kind s.table b)) [
    | false ↦ refused missing_name at
    | true ↦ (do
      e ← push_member (fresh first b no_name none at) s
      got e.1)
  ]

  -- one member declaration; "storage class on a member" is refused
  unfoldable pub member_declaration : ℕ → State → Answer State
  member_declaration first s = do
    p ← specifiers ts m next s
    elim (eqb (storage_number p.0.storage) (storage_number noStorage)) [
      | false ↦ refused member_storage s.at
      | true ↦ (do
        b ← base_type m p.0 s.at p.1
        elim (stands ts semicolon b.1) [
          | true ↦ anonymous_member first b.0 s.at (skip b.1)
          | false ↦ member_declarators (suc (left ts s.at)) first b.0 b.1
        ])
    ]

  -- members up to the closing brace; each round reads a semicolon or a member declaration
  unfoldable pub members_from : ℕ → ℕ → State → Answer State
  members_from zero first s = refused missing_mark s.at
  members_from (suc f) first s =
      elim (stands ts close_brace s) [
        | true ↦ got (skip s)
        | false ↦
            elim (stands ts end s) [
              | true ↦ refused missing_mark s.at
              | false ↦
                  elim (stands ts semicolon s) [
                    | true ↦ members_from f first (skip s)
                    | false ↦ (do
                      s₁ ← member_declaration first s
                      members_from f first s₁)
                  ]
            ]
      ]

  -- a body after its brace, laid out; `at` is its tag's place
  unfoldable pub body : Bool → ℕ → Reads Body
  body union at s = let first = length s.table.members in do
    s₁ ← members_from (suc (left ts s.at)) first s
    l ← layout m s₁.table union first at
    got (
      laid_body first l.0 (fields_only first l.1),
      with_table s₁ (with_members (noted (not union || none_wide m s₁.table (mark_of first) (drop first s₁.table.members)) s₁.table) (fields_only first l.1)),
    )

  -- a tag is known before its body is read, so that the body can name it
  unfoldable pub tagged_composite : Bool → ℕ → ℕ → Reads ℕ
  tagged_composite union w at s = do
    r ← tag_row union w s
    elim (stands ts open_brace r.1) [
      | false ↦ got r
      | true ↦ (do
        b ← body union at (skip r.1)
        got (r.0, define_body union w r.0 b.0 b.1))
    ]

  unfoldable pub untagged_composite : Bool → ℕ → Reads ℕ
  untagged_composite union at s = elim (stands ts open_brace s) [
    | false ↦ refused missing_name at
    | true ↦ (do
      b ← body union at (skip s)
      add_body union b.0 b.1)
  ]

  -- after `struct` or `union`
  unfoldable pub composite₁ : Bool → Reads ℕ
  composite₁ union s = elim (is_name (kind_at ts s.at)) [
    | true ↦ tagged_composite union (number_at ts s.at) s.at (skip s)
    | false ↦ untagged_composite union s.at s
  ]
