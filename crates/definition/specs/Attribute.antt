-- Attributes: "An attribute is otherwise dropped .. these are refused", so those that change a layout are kept as tokens.
use Rattle.std.specs.Prelude.{Bool, true, false, ◌||◌, not, [], ◌∷◌, ℕ, zero, suc, ◌+◌, eqb, leb, length, take}
use Rattle.definition.specs.Answer.{Answer, got, refused}
use Rattle.definition.specs.Refusal.{not_closed}
use Rattle.definition.specs.Text.{Bytes, bytes, byte_at}
use Rattle.definition.specs.Byte.{open_byte, close_byte}
use Rattle.definition.specs.Class.{is_blank}
use Rattle.definition.specs.Scan.{from, first, before, contains}

-- An attribute: where it ends, and whether its body could change a layout.
pub record Attribute : Type 0 where
  pub layout : Bool
  pub next : ℕ

unfoldable pub not_blank : Bytes → Bool
not_blank bs = not (is_blank (first bs))

-- how many bytes stand before the parenthesis that closes; all of them where there is none. `deep` counts the parentheses opened since
unfoldable pub in_parens : ℕ → Bytes → ℕ
in_parens deep [] = zero
in_parens deep (b ∷ bs) =
    elim (eqb b open_byte) [
      | true ↦ suc (in_parens (suc deep) bs)
      | false ↦
          elim (eqb b close_byte) [
            | false ↦ suc (in_parens deep bs)
            | true ↦
                elim deep [ zero ↦ zero | suc d ↦ suc (in_parens d bs) ]
          ]
    ]

-- LAYOUT_ATTRIBUTES
unfoldable pub changes_layout : Bytes → Bool
changes_layout body =
    contains (bytes "packed") body || (contains (bytes "aligned") body || (contains (bytes "mode") body
    || (contains (bytes "vector_size") body || contains (bytes "transparent_union") body)))

-- what stands in the parentheses that open at an offset; not closed is refused at the attribute's word
unfoldable pub parenthesized : Bytes → ℕ → ℕ → Answer Attribute
parenthesized text word at =
    let n = in_parens zero (from text (at + 1)) in
    elim (leb (length text) (at + 1 + n)) [
      | true ↦ refused not_closed word
      | false ↦ got (record { layout = changes_layout (take n (from text (at + 1))); next = at + 2 + n })
    ]

-- the attribute whose word begins at `word` and ends at an offset: without parentheses after it, the word counts for nothing
unfoldable pub attribute_at : Bytes → ℕ → ℕ → Answer Attribute
attribute_at text word at =
    let open' = at + before not_blank (from text at) in
    elim (eqb (byte_at text open') open_byte) [ true ↦ parenthesized text word open' | false ↦ got (record { layout = false; next = at }) ]
