-- The line of an entry's numbers is the entry's line. Assumes nothing.
use mathlib.Core.Path.{◌≡◌, refl, ap}
use mathlib.Core.List.{List, [], ◌∷◌}
use Prim.Native.Nat.{ℕ}
use lib.IntN.{ℤ}
use Rattle.definition.specs.Text.{Bytes, bytes}
use Rattle.definition.specs.Byte.{line_feed}
use Rattle.definition.specs.Model.{Model}
use Rattle.definition.specs.Size.{size_of}
use Rattle.definition.specs.Align.{align_of}
use Rattle.definition.specs.Table.{Table, row_at, Member as MeantMember, Value, Parameter}
use Rattle.lemmas.specs.Options.{option}
use Rattle.definition.specs.Listing.{decimal, or_dash, size_word, parted, kind_word, type_line, member_line, value_line, param_line, details}
use Rattle.size_align.specs.declared.Size.{Size}
use Rattle.std.specs.Prelude.{Option}
use Rattle.size_align.specs.Measure.{told, align, Extents}
use Rattle.table.specs.declared.Numbers.{Numbers}
use Rattle.table.specs.Held.{InWides}
use Rattle.table.specs.Reply.{numbers}
use Rattle.printing.specs.declared.Writer.{Writer}
use Rattle.printing.specs.Written.{Writes, WritesWords}
use Rattle.printing.proofs.Writing.{as_is, words_as, line_after}
use Rattle.line_format.specs.Parts.{member_of, value_of, parameter_of, details_of, kind_bytes, size_bytes}
use Rattle.line_format.proofs.Rows.{details-of, kind-word, size_word_lem}

module _ (text : Bytes) where
  pub member-same : (e : MeantMember) (width : Option ℕ) {offset bit type name : ℕ} → offset ≡ e.offset → option width ≡ e.width → bit ≡ e.first_bit → type ≡ e.type → name ≡ e.name
      → member_line text (member_of (record { offset = offset; width = width; bit = bit; ty = type; name = name })) ≡ member_line text e
  unfolding member_line
  member-same e width p q r s u = rw (p, q, r, s, u)

  pub value_same : (e : Value) {value : ℤ} {name : ℕ} → value ≡ e.value → name ≡ e.name → value_line text (value_of value name) ≡ value_line text e
  unfolding value_line
  value_same e p q = rw (p, q)

  pub parameter-same : (e : Parameter) {type name : ℕ} → type ≡ e.type → name ≡ e.name → param_line text (parameter_of type name) ≡ param_line text e
  unfolding param_line
  parameter-same e p q = rw (p, q)

-- the parts of a type line
module _ (text : Bytes) (m : Model) (t : Table) (row : ℕ) where
  abbrev head_words : List Bytes
  head_words = decimal row ∷ kind_word (row_at t row) ∷ size_word (size_of m t row) ∷ or_dash (align_of m t row) ∷ []

  pub type_line_is : (x : Numbers) (size : Size) (a : Option ℕ) {o o₁ o₂ o₃ : Writer} → x ≡ numbers (row_at t row) → size ≡ told (size_of m t row) → align a ≡ align_of m t row
      → Writes (parted (bytes "type") (decimal row ∷ kind_bytes x.kind ∷ size_bytes size ∷ or_dash (align a) ∷ [])) o o₁ → WritesWords (details_of text x) o₁ o₂ → Writes (line_feed ∷ []) o₂ o₃
      → Writes (type_line text m t row (row_at t row)) o o₃
  unfolding type_line
  type_line_is x size a h s b p q r =
      line_after (bytes "type") head_words {vs = details text (row_at t row)}
      (as_is p (rw (h, s, b, kind-word (row_at t row), size_word_lem (size_of m t row)) refl))
      (words_as q (rw (← details-of text (row_at t row), ← h) refl))
      r

-- the rows of the table that the wide slice holds
pub extents : {t : Table} {d : List ℕ} → InWides t d → Extents t d
extents {t} h = record { table = t; holds = h; rows = refl }
