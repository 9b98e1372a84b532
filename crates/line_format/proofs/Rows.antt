-- The words of the numbers are the words of the row or the entry. Assumes nothing.
use mathlib.Core.Path.{◌≡◌, refl, ap, ◌∙◌}
use mathlib.Core.Bool.{Bool, true, false, not}
use mathlib.Core.List.{[], ◌∷◌}
use mathlib.Core.Option.{Option, none, some}
use Rattle.std.specs.Prelude.{Option as CodeOption, Some, None}
use Rattle.std.specs.Option.{option_and}
use Rattle.std.specs.Bool.{then_some}
use Prim.Native.Nat.{ℕ, ◌^◌, ◌<◌}
use native.Mathlib.Omega.{arith}
use lib.Dec.{eqb, ltb}
use Rattle.lemmas.proofs.Branch.{eq_no}
use borrow.Author.Tests.{eqb-true, eqb-false}
use Rattle.definition.specs.Text.{Bytes, bytes}
use Rattle.definition.specs.Row.{Row, void, int, float, bool, pointer, array, composite, enumeration, function, typedef, qualified, kind_of, target_of, flags_of, row_name, extent_of}
use Rattle.definition.specs.Listing.{decimal, or_dash, bit_words, name_word, size_word, letters, kind_word, details}
use Rattle.lemmas.specs.Options.{option}
use Rattle.words.proofs.Uses.{bits-qualifiers}
use Rattle.size_align.specs.declared.Size.TheVariants.{Known, Big}
use Rattle.size_align.specs.Measure.{told_below, told, align}
use Rattle.table.specs.declared.Numbers.{Numbers}
use Rattle.table.specs.Reply.{numbers}
use Rattle.printing.specs.Words.{or_dash_of}
use Rattle.line_format.specs.Parts.{some_if, size_bytes, kind_bytes, details_of}

-- widths: the words of a bit-field, or two dashes
pub first_bit_word : (o : CodeOption ℕ) (b : ℕ) → or_dash_of decimal (option_and o (Some b)) ≡ (bit_words (option o) b).0
first_bit_word (Some w) b = refl
first_bit_word None b = refl

pub width_word : (o : CodeOption ℕ) (b : ℕ) → or_dash_of decimal o ≡ (bit_words (option o) b).1
width_word (Some w) b = refl
width_word None b = refl

-- sizes
pub size_word_lem : (o : Option ℕ) → size_bytes (told o) ≡ size_word o
unfolding told_below size_word
size_word_lem none = refl
size_word_lem (some s) = by (ltb s (2 ^ 64))
  where
    by : (b : Bool) → size_bytes (elim b [ true ↦ Known s | false ↦ Big ]) ≡ elim b [ true ↦ decimal s | false ↦ bytes "big" ]
    by true = refl
    by false = refl

-- a number where a flag is set
pub set_word : (flag x : ℕ) → or_dash_of decimal (then_some (not (eqb flag 0)) x) ≡ or_dash (some_if flag x)
unfolding or_dash
set_word flag x = by (eqb flag 0)
  where
    by : (b : Bool) → or_dash_of decimal (then_some (not b) x) ≡ or_dash (elim b as (λ z. Option ℕ) [ true ↦ none | false ↦ some x ])
    by true = refl
    by false = refl

-- alignments
pub align_word : (a : CodeOption ℕ) → or_dash_of decimal a ≡ or_dash (align a)
unfolding or_dash
align_word (Some a) = refl
align_word None = refl

-- rows
pub kind-word : (r : Row) → kind_bytes (kind_of r) ≡ kind_word r
unfolding kind_bytes kind_of kind_word
kind-word void = refl
kind-word (int s g) = refl
kind-word (float s) = refl
kind-word bool = refl
kind-word (pointer r) = refl
kind-word (array r b) = refl
kind-word (composite true w s e) = refl
kind-word (composite false w s e) = refl
kind-word (enumeration w s e) = refl
kind-word (function r v e) = refl
kind-word (typedef w r) = refl
kind-word (qualified r q) = refl

pub details-of : (text : Bytes) (r : Row) → details_of text (numbers r) ≡ details text r
unfolding details_of kind_of target_of flags_of row_name extent_of details
details-of text void = refl
details-of text (int s true) = refl
details-of text (int s false) = refl
details-of text (float s) = refl
details-of text bool = refl
details-of text (pointer r) = refl
details-of text (array r none) = refl
details-of text (array r (some b)) = refl
details-of text (composite true w s e) = refl
details-of text (composite false w s e) = refl
details-of text (enumeration w s e) = refl
details-of text (function none true e) = refl
details-of text (function none false e) = refl
details-of text (function (some r) true e) = refl
details-of text (function (some r) false e) = refl
details-of text (typedef w r) = refl
details-of text (qualified r q) = ap (λ p. decimal r ∷ letters p ∷ []) (bits-qualifiers q)

-- what follows the alignment, for kinds that are tested together
module _ (text : Bytes) (x : Numbers) where
  void_details : x.kind ≡ 0 → details_of text x ≡ []
  unfolding details_of
  void_details e = rw e refl

  float_details : x.kind ≡ 2 → details_of text x ≡ []
  unfolding details_of
  float_details e = rw e refl

  bool_details : x.kind ≡ 3 → details_of text x ≡ []
  unfolding details_of
  bool_details e = rw e refl

  pub no_details : x.kind < 4 → (x.kind ≡ 1 → ⊥) → details_of text x ≡ []
  no_details h ne = by (eqb x.kind 0) (eqb x.kind 2) refl refl
    where
      by : (a b : Bool) → eqb x.kind 0 ≡ a → eqb x.kind 2 ≡ b → details_of text x ≡ []
      by true b p q = void_details (eqb-true x.kind 0 p)
      by false true p q = float_details (eqb-true x.kind 2 q)
      by false false p q = let n = eqb-false x.kind 0 p in let m = eqb-false x.kind 2 q in bool_details (omega arith)

  pub name_alone : 5 < x.kind → (x.kind ≡ 9 → ⊥) → (x.kind ≡ 10 → ⊥) → (x.kind ≡ 11 → ⊥) → details_of text x ≡ name_word text x.name ∷ []
  unfolding details_of
  name_alone p f t q =
      eq_no x.kind 0 _ _ (omega arith)
      ∙ (eq_no x.kind 2 _ _ (omega arith)
      ∙ (eq_no x.kind 3 _ _ (omega arith)
      ∙ (eq_no x.kind 1 _ _ (omega arith)
      ∙ (eq_no x.kind 4 _ _ (omega arith)
      ∙ (eq_no x.kind 5 _ _ (omega arith) ∙ (eq_no x.kind 9 _ _ f ∙ (eq_no x.kind 10 _ _ t ∙ eq_no x.kind 11 _ _ q)))))))
