-- What `lex` answers. Assumes nothing.
use mathlib.Core.Path.{◌≡◌, refl, sym, ap, ◌∙◌}
use mathlib.Core.Bool.{Bool, true, false, ◌&&◌}
use mathlib.Core.List.{List, [], ◌∷◌}
use Prim.Native.Nat.{ℕ, suc, ◌≤◌, ◌<◌}
use Rattle.std.specs.List.{fold}
use native.Mathlib.Omega.{arith}
use borrow.Author.Tests.{ltb-true, ltb-false}
use lib.Dec.{leb, ltb, leb-suc-suc, leb-suc-zero}
use lib.ListN.{length, length-map}
use Rattle.definition.specs.Answer.{got, refused}
use Rattle.definition.specs.Text.{Bytes}
use Rattle.definition.specs.Scan.{before}
use Rattle.definition.specs.Token.{columns}
use Rattle.definition.specs.Cut.{Cutting, cut, above_ascii, check_bytes, tokenize}
use Rattle.definition.specs.Limit.{max_text}
use Rattle.definition_laws.proofs.Same.{then-got, then-refused}
use Rattle.lemmas.proofs.Branch.{lt_yes, lt_no}
use Rattle.lexer.specs.Columns.{Fills, Lexes}
use Rattle.std.specs.Prelude.{Result, Ok, Err}
use Rattle.encoding.specs.declared.refusals.Refusal.{Refusal}

above-here : (b : ℕ) (w : Bytes) → 127 < b → before above_ascii (b ∷ w) ≡ 0
unfolding before above_ascii
above-here b w h = lt_yes 127 b _ _ h

above-later : (b : ℕ) (w : Bytes) → b ≤ 127 → before above_ascii (b ∷ w) ≡ suc (before above_ascii w)
unfolding before above_ascii
above-later b w h = lt_no 127 b _ _ h

-- whether no byte is above 127
abbrev pub both : Bool → ℕ → Bool
both a b = a && ltb b 128

both-false : (w : Bytes) → fold both false w ≡ false
both-false [] = refl
both-false (b ∷ w) = both-false w

pub both-all : (w : Bytes) → fold both true w ≡ leb (length w) (before above_ascii w)
unfolding before
both-all [] = refl
both-all (b ∷ w) = by (ltb b 128) refl (both-all w)
  where
    by : (t : Bool) → ltb b 128 ≡ t → fold both true w ≡ leb (length w) (before above_ascii w) → fold both t w ≡ leb (length (b ∷ w)) (before above_ascii (b ∷ w))
    by true e h = h ∙ rw (above-later b w (omega (arith, ltb-true b 128 e))) (sym (leb-suc-suc (length w) (before above_ascii w)))
    by false e h = both-false w ∙ rw (above-here b w (omega (arith, ltb-false b 128 e))) (sym (leb-suc-zero (length w)))

-- the definition's answer
module _ (text : Bytes) where
  pub too_long : max_text < length text → tokenize text ≡ refused 2 0
  unfolding tokenize
  too_long h = lt_yes max_text (length text) _ _ h

  module _ (fits : length text ≤ max_text) (n : ℕ) (e : n ≡ before above_ascii text) where
    checked : length text ≤ n → check_bytes text ≡ got (before above_ascii text)
    unfolding check_bytes
    checked h = lt_no (before above_ascii text) (length text) _ _ (omega arith)

    pub not_ascii : n < length text → tokenize text ≡ refused 3 n
    unfolding tokenize check_bytes
    not_ascii h =
        lt_no max_text (length text) _ _ fits
        ∙ (then-refused (check_bytes text) _ 3 (before above_ascii text) (lt_yes (before above_ascii text) (length text) _ _ (omega arith)) ∙ ap (λ (p : ℕ). refused 3 p) (sym e))

    pub cut-refused : length text ≤ n → (m p : ℕ) → cut text ≡ refused m p → tokenize text ≡ refused m p
    unfolding tokenize
    cut-refused h m p q = lt_no max_text (length text) _ _ fits ∙ (then-got (check_bytes text) _ (before above_ascii text) (checked h) ∙ then-refused (cut text) _ m p q)

    pub cut-got : length text ≤ n → (s : Cutting) → cut text ≡ got s → tokenize text ≡ got (columns s.tokens (length text))
    unfolding tokenize
    cut-got h s q = lt_no max_text (length text) _ _ fits ∙ (then-got (check_bytes text) _ (before above_ascii text) (checked h) ∙ then-got (cut text) _ s q)

-- a text that is not too long and has no byte above 127, with what the loop left
module _ (text : Bytes) (fits : length text ≤ max_text) (n : ℕ) (e : n ≡ before above_ascii text) (ascii : length text ≤ n) (ks ps ns : List ℕ) where
  pub filled : (r : Result ℕ Refusal) → Fills text r ks ps ns → Lexes (tokenize text) r ks ps ns
  unfolding columns
  filled (Ok count) f = record {
    lexed = columns f.end.tokens (length text);
    same = cut-got text fits n e ascii f.end f.same;
    counted = f.counted ∙ sym (length-map f.end.tokens (λ t. t.place));
    kinds = f.holds.kinds;
    places = f.holds.places;
    numbers = f.holds.numbers;
  }
  filled (Err r) f = cut-refused text fits n e ascii _ _ f
