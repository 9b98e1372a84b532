-- The layout of a body (`layout` in 000): where each member stands, and the size of the whole.
use Rattle.std.specs.Prelude.{List, [], ◌∷◌, ◌++◌, Bool, true, false, ◌&&◌, ◌||◌, not, ℕ, zero, suc, ◌+◌, ◌-◌, ◌*◌, ◌/◌, ◌^◌, max, eqb, leb, ltb, take, drop}
use Rattle.std.proofs.Math.Option.{Option, none, some}
use Rattle.definition.specs.Answer.{Answer, got, refused, ◌>>=◌}
use Rattle.definition.specs.Refusal.{unknown_size, record_too_large, layout_overflow}
use Rattle.definition.specs.Model.{Model}
use Rattle.definition.specs.RowKind.{array_kind}
use Rattle.definition.specs.Row.{Row, flags_of, kind_of, or_zero}
use Rattle.definition.specs.Table.{Table, Member, row_at, mark_of}
use Rattle.definition.specs.Types.{resolve}
use Rattle.definition.specs.Size.{size_of}
use Rattle.definition.specs.Align.{align_of, or_one}

-- the least multiple of k, above 0, that is at least v
unfoldable pub round_up : ℕ → ℕ → ℕ
round_up v k = (v + (k - 1)) / k * k

-- "a size, a bit count or the end of a struct bit-field's unit .. passes 2^64 - 1"
unfoldable pub within : ℕ → ℕ → Answer ℕ
within at n = elim (ltb n (2 ^ 64)) [ true ↦ got n | false ↦ refused layout_overflow at ]

-- What has been laid out: bits taken, the largest alignment, the widest member of a union.
pub record Laid : Type 0 where
  pub taken : ℕ
  pub align : ℕ
  pub widest : ℕ

abbrev pub empty_body : Laid
empty_body = record { taken = 0; align = 1; widest = 0 }

-- a struct's layout after a member of alignment a that ends at a bit
abbrev pub advanced : Laid → ℕ → ℕ → Laid
advanced l end a = record { taken = end; align = max l.align a; widest = l.widest }

-- a member with its place: byte offset and first bit
abbrev pub located : Member → ℕ → ℕ → Member
located e o b = record { row = e.row; type = e.type; name = e.name; width = e.width; offset = o; first_bit = b }

-- "An unsized array is one without a bound"
unfoldable pub is_unsized : Row → Bool
is_unsized r = eqb (kind_of r) array_kind && eqb (flags_of r) 0

-- a member's size: "member size unknown, unless an unsized array is last"
unfoldable pub member_size : Option ℕ → Bool → ℕ → Answer ℕ
member_size (some s) unsizedLast at = within at s
member_size none true at = got 0
member_size none false at = refused unknown_size at

-- "a plain member goes to the next multiple of its alignment"
unfoldable pub plain_member : Member → ℕ → ℕ → Laid → Answer (Member × Laid)
plain_member e s a l = do
  end ← within e.offset (round_up l.taken (8 * a) + 8 * s)
  got (located e (round_up l.taken (8 * a) / 8) 0, advanced l end a)

-- "Width 0 rounds up, makes no field, and its alignment counts in the size."
unfoldable pub zero_field : Member → ℕ → Laid → Answer (Member × Laid)
zero_field e a l = do
  end ← within e.offset (round_up l.taken (8 * a))
  got (located e (end / 8) end, advanced l end a)

-- where a bit-field begins: one that would pass its unit moves to its alignment
unfoldable pub field_start : Bool → ℕ → ℕ → ℕ
field_start true taken a = round_up taken (8 * a)
field_start false taken a = taken

-- a bit-field of width w that begins at bit b: "its byte offset is that of the unit holding the first bit"
unfoldable pub field_at : Member → ℕ → ℕ → ℕ → Laid → ℕ → Answer (Member × Laid)
field_at e w unit a l b = do
  end ← within e.offset (b + w)
  got (located e (b / unit * unit / 8) b, advanced l end a)

-- "A bit-field that would pass its unit (type size, at least 1 byte) moves to its alignment". The unit is counted in bits.
unfoldable pub bit_field : Member → ℕ → ℕ → ℕ → Laid → Answer (Member × Laid)
bit_field e w unit a l = do
  unitEnd ← within e.offset (l.taken / unit * unit + unit)
  field_at e w unit a l (field_start (ltb unitEnd (l.taken + w)) l.taken a)

unfoldable pub in_struct : Option ℕ → Member → ℕ → ℕ → Laid → Answer (Member × Laid)
in_struct none e s a l = plain_member e s a l
in_struct (some zero) e s a l = zero_field e a l
in_struct (some (suc w)) e s a l = bit_field e (suc w) (8 * max s 1) a l

-- a field of width 0 makes no field of a union either
abbrev pub widest_with : Option ℕ → ℕ → ℕ → ℕ
widest_with none widest s = max widest s
widest_with (some zero) widest s = widest
widest_with (some (suc w)) widest s = max widest s

-- every member of a union begins at 0
unfoldable pub in_union : Member → ℕ → ℕ → Laid → Member × Laid
in_union e s a l = (located e 0 0, record { taken = l.taken; align = max l.align a; widest = widest_with e.width l.widest s })

module _ (m : Model) (t : Table) (union : Bool) where
  -- a member at its place; `last` where no other follows
  unfoldable pub placed : Bool → Member → Laid → Answer (Member × Laid)
  placed last e l = do
    s ← member_size (size_of m t e.type) (last && is_unsized (row_at t (resolve t e.type))) e.offset
    elim union [
      | true ↦ got (in_union e s (max (or_one (align_of m t e.type)) 1) l)
      | false ↦ in_struct e.width e s (max (or_one (align_of m t e.type)) 1) l
    ]

  unfoldable pub is_last : ℕ → List Member → Bool
  is_last mark [] = true
  is_last mark (e ∷ es) = elim (eqb e.row mark) [ true ↦ false | false ↦ is_last mark es ]

  -- of some entries, those that carry the body's mark, in order
  unfoldable pub placed_all : ℕ → List Member → Laid → Answer (List Member × Laid)
  placed_all mark [] l = got ([], l)
  placed_all mark (e ∷ es) l = elim (eqb e.row mark) [
    | true ↦ (do
      p ← placed (is_last mark es) e l
      r ← placed_all mark es p.1
      got (p.0 ∷ r.0, r.1))
    | false ↦ (do
      r ← placed_all mark es l
      got (e ∷ r.0, r.1))
  ]

  -- the bytes that the members take: bits are rounded up to whole bytes
  unfoldable pub bytes_taken : ℕ → Laid → Answer ℕ
  bytes_taken at l = elim union [
    | true ↦ got l.widest
    | false ↦ (do
      b ← within at (round_up l.taken 8)
      got (b / 8))
  ]

  -- "Struct and union end at a multiple of the largest alignment."
  unfoldable pub record_size : ℕ → Laid → Answer ℕ
  record_size at l = do
    b ← bytes_taken at l
    s ← within at (round_up b l.align)
    elim (ltb s (2 ^ 32)) [ true ↦ got s | false ↦ refused record_too_large at ]

  -- the size and the member entries of the body whose first entry is `first`; `at` is its tag's place
  unfoldable pub layout : ℕ → ℕ → Answer (ℕ × List Member)
  layout first at = do
    r ← placed_all (mark_of first) (drop first t.members) empty_body
    s ← record_size at r.1
    got (s, take first t.members ++ r.0)

-- "A union bit-field is held against 8 times its type's size at the moment the union's layout takes it, and an unsized type is 0 bits wide."
abbrev pub not_wider : ℕ → Option ℕ → Bool
not_wider s none = true
not_wider s (some w) = leb w (8 * s)

unfoldable pub none_wide : Model → Table → ℕ → List Member → Bool
none_wide m t mark [] = true
none_wide m t mark (e ∷ es) = (not (eqb e.row mark) || not_wider (or_zero (size_of m t e.type)) e.width) && none_wide m t mark es
