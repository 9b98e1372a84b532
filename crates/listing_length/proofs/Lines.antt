-- How long each line of a listing is, beside its name. Assumes nothing.
use mathlib.Core.Path.{◌≡◌, ap}
use mathlib.Core.Bool.{Bool, true, false}
use mathlib.Core.List.{List, [], ◌∷◌, ◌++◌}
use mathlib.Core.Option.{Option, none, some}
use Prim.Native.Nat.{ℕ, zero, suc, ◌+◌, ◌^◌, ◌≤◌, ◌<◌}
use native.Mathlib.Omega.{arith}
use lib.ListN.{length, length-append}
use Rattle.definition.specs.Text.{Bytes, bytes}
use Rattle.definition.specs.Byte.{line_feed, space}
use Rattle.definition.specs.Limit.{max_rows, align_levels}
use Rattle.definition.specs.Name.{length_of}
use Rattle.definition.specs.Model.{Model}
use Rattle.definition.specs.Row.{Row, void, int, float, bool, pointer, array, composite, enumeration, function, typedef, qualified, Qualifiers, or_zero, target_of, row_name}
use Rattle.definition.specs.Table.{Member, Value, Parameter, Declaration, Storage, noStorage, typedefStorage, externStorage, staticStorage, autoStorage, Table, row_at}
use Rattle.definition.specs.Types.{members_of}
use Rattle.definition.specs.Size.{size_of}
use Rattle.definition.specs.Align.{larger, or_one, largest, align_by, align_within, align_of}
use Rattle.definition.specs.Listing.{decimal, signed_decimal, or_dash, name_word, size_word, parted, line, sign_word, composite_word, dots, letter_if, letters, kind_word, details, type_line, bit_words, member_line, value_line, param_line, storage_word, decl_line}
use Rattle.listing_length.specs.Weight.{row_length, member_length, value_length, parameter_length, declaration_length}
use Rattle.listing_length.proofs.Decimals.{row-few, two-few, wide-few, signed_few, or_dash_few, size_few, name-few}
use Rattle.listing_length.proofs.Fits.{bound_in, BoundFits, MemberFits, ValueFits}

-- the words after the first, each after a space
unfoldable pub after : List Bytes → ℕ
after [] = 0
after (v ∷ vs) = 1 + length v + after vs

parted-length : (w : Bytes) (vs : List Bytes) → length (parted w vs) ≡ length w + after vs
unfolding parted after
parted-length w [] = omega arith
parted-length w (v ∷ vs) = let h = parted-length v vs in omega (arith, length-append w (space ∷ parted v vs))

pub line-length : (w : Bytes) (vs : List Bytes) → length (line w vs) ≡ length w + after vs + 1
unfolding line
line-length w vs = let h = parted-length w vs in omega (arith, length-append (parted w vs) (line_feed ∷ []))

-- ---- alignments

abbrev Aligned : Option ℕ → Type 0
Aligned o = or_zero o ≤ 16

larger-aligned : (a b : Option ℕ) → Aligned a → Aligned b → Aligned (larger a b)
larger-aligned none b p q = q
larger-aligned (some a) none p q = p
larger-aligned (some a) (some b) p q = omega arith

largest-aligned : (align : ℕ → Option ℕ) → ((n : ℕ) → Aligned (align n)) → (es : List Member) → Aligned (largest align es)
unfolding largest
largest-aligned align h [] = omega arith
largest-aligned align h (e ∷ es) = larger-aligned (align e.type) (largest align es) (h e.type) (largest-aligned align h es)

or_one_lem : (o : Option ℕ) → Aligned o → or_one o ≤ 16
or_one_lem none p = omega arith
or_one_lem (some a) p = p

module _ (m : Model) (small : m.max_align ≤ 16) where
  by-aligned : (t : Table) (align : ℕ → Option ℕ) → ((n : ℕ) → Aligned (align n)) → (n : ℕ) (r : Row) → Aligned (align_by m t align n r)
  unfolding align_by
  by-aligned t align h n void = omega arith
  by-aligned t align h n (int s g) = omega arith
  by-aligned t align h n (float s) = omega arith
  by-aligned t align h n bool = omega arith
  by-aligned t align h n (pointer r) = omega arith
  by-aligned t align h n (array r b) = h r
  by-aligned t align h n (composite u w s e) = or_one_lem (largest align (members_of t n e)) (largest-aligned align h (members_of t n e))
  by-aligned t align h n (enumeration w s e) = omega arith
  by-aligned t align h n (function r v e) = omega arith
  by-aligned t align h n (typedef w r) = h r
  by-aligned t align h n (qualified r q) = h r

  within-aligned : (t : Table) (d n : ℕ) → Aligned (align_within d m t n)
  unfolding align_within
  within-aligned t zero n = omega arith
  within-aligned t (suc d) n = by-aligned t (λ r. align_within d m t r) (λ r. within-aligned t d r) n (row_at t n)

  pub align-few : (t : Table) (n : ℕ) → length (or_dash (align_of m t n)) ≤ 2
  align-few t n = go (align_of m t n) (within-aligned t align_levels n)
    where
      go : (o : Option ℕ) → Aligned o → length (or_dash o) ≤ 2
      go o p = or_dash_few 2 o (omega arith) (λ k e. let z = ap or_zero e in two-few k (omega arith))

-- ---- type lines

letter-few : (q : Qualifiers) → length (letters q) ≤ 3
unfolding letters bytes
letter-few q = go q.const q.volatile q.restrict
  where
    go : (a b c : Bool) → length (letter_if a "c" ++ letter_if b "v" ++ letter_if c "r") ≤ 3
    go true true true = omega arith
    go true true false = omega arith
    go true false true = omega arith
    go true false false = omega arith
    go false true true = omega arith
    go false true false = omega arith
    go false false true = omega arith
    go false false false = omega arith

sign_few : (g : Bool) → length (sign_word g) ≤ 8
unfolding bytes
sign_few true = omega arith
sign_few false = omega arith

tag-few : (u : Bool) → length (composite_word u) ≤ 6
unfolding bytes
tag-few true = omega arith
tag-few false = omega arith

dots-few : (v : Bool) → length (dots v) ≤ 3
unfolding bytes
dots-few true = omega arith
dots-few false = omega arith

target-few : (o : Option ℕ) → or_zero o < max_rows → length (or_dash o) ≤ 4
target-few o p = or_dash_few 4 o (omega arith) (λ k e. let z = ap or_zero e in row-few k (omega arith))

bound-few : (o : Option ℕ) → or_zero o < 2 ^ 64 → length (or_dash o) ≤ 20
bound-few o p = or_dash_few 20 o (omega arith) (λ k e. let z = ap or_zero e in wide-few k (omega arith))

-- the kind of a row, and its details
module _ (text : Bytes) where
  row_words : (r : Row) → target_of r < max_rows → BoundFits r → length (kind_word r) + after (details text r) ≤ 31 + length_of (row_name r)
  unfolding kind_word details after target_of bound_in row_name bytes
  row_words void p q = omega arith
  row_words (int s g) p q = omega (arith, sign_few g)
  row_words (float s) p q = omega arith
  row_words bool p q = omega arith
  row_words (pointer r) p q = omega (arith, row-few r (omega arith))
  row_words (array r b) p q = omega (arith, row-few r (omega arith), bound-few b q)
  row_words (composite u w s e) p q = omega (arith, tag-few u, name-few text w)
  row_words (enumeration w s e) p q = omega (arith, name-few text w)
  row_words (function r v e) p q = omega (arith, target-few r p, dots-few v)
  row_words (typedef w r) p q = omega (arith, row-few r (omega arith), name-few text w)
  row_words (qualified r z) p q = omega (arith, row-few r (omega arith), letter-few z)

  pub type-line : (m : Model) → m.max_align ≤ 16 → (t : Table) (n : ℕ) (r : Row) → n < max_rows → target_of r < max_rows → BoundFits r
      → length (type_line text m t n r) ≤ row_length + length_of (row_name r)
  unfolding type_line after bytes
  type-line m small t n r l p q = omega (
    arith,
    line-length (bytes "type") (decimal n ∷ kind_word r ∷ size_word (size_of m t n) ∷ or_dash (align_of m t n) ∷ details text r),
    row-few n (omega arith),
    size_few (size_of m t n),
    align-few m small t n,
    row_words r p q,
  )

  -- ---- sub-lines

  bits-few : (o : Option ℕ) (b : ℕ) → or_zero o ≤ 64 → b < 2 ^ 64 → length (bit_words o b).0 + length (bit_words o b).1 ≤ 22
  unfolding bytes
  bits-few none b p q = omega arith
  bits-few (some w) b p q = omega (arith, wide-few b q, two-few w (omega arith))

  pub member-line : (e : Member) → MemberFits e → e.type < max_rows → e.row < max_rows → length (member_line text e) ≤ member_length + length_of e.name
  unfolding member_line after bytes
  member-line e h p q = omega (
    arith,
    line-length (bytes "member") (decimal e.offset ∷ (bit_words e.width e.first_bit).0 ∷ (bit_words e.width e.first_bit).1 ∷ decimal e.type ∷ name_word text e.name ∷ []),
    wide-few e.offset (h.stands q).offset,
    bits-few e.width e.first_bit h.width (h.stands q).first_bit,
    row-few e.type (omega arith),
    name-few text e.name,
  )

  pub value_line_lem : (e : Value) → ValueFits e → length (value_line text e) ≤ value_length + length_of e.name
  unfolding value_line after bytes
  value_line_lem e h = omega (arith, line-length (bytes "value") (signed_decimal e.value ∷ name_word text e.name ∷ []), signed_few e.value h, name-few text e.name)

  pub param_line_lem : (e : Parameter) → e.type < max_rows → length (param_line text e) ≤ parameter_length + length_of e.name
  unfolding param_line after bytes
  param_line_lem e p = omega (arith, line-length (bytes "param") (decimal e.type ∷ name_word text e.name ∷ []), row-few e.type (omega arith), name-few text e.name)

  storage-few : (c : Storage) → length (storage_word c) ≤ 7
  unfolding storage_word bytes
  storage-few noStorage = omega arith
  storage-few typedefStorage = omega arith
  storage-few externStorage = omega arith
  storage-few staticStorage = omega arith
  storage-few autoStorage = omega arith

  pub decl_line_lem : (d : Declaration) → d.type < max_rows → length (decl_line text d) ≤ declaration_length + length_of d.name
  unfolding decl_line after bytes
  decl_line_lem d p = omega (
    arith,
    line-length (bytes "decl") (storage_word d.storage ∷ decimal d.type ∷ name_word text d.name ∷ []),
    storage-few d.storage,
    row-few d.type (omega arith),
    name-few text d.name,
  )
