-- Laws of going over a text by an offset: what stands there, and how far something holds. Assumes nothing.
use mathlib.Core.Path.{◌≡◌, refl, sym, ap, ◌∙◌}
use mathlib.Core.Bool.{Bool, true, false, ◌&&◌}
use mathlib.Core.List.{[], ◌∷◌, ◌++◌}
use mathlib.Mathlib.Data.Bool.Basic.{and_elim_right}
use Prim.Native.Nat.{ℕ, zero, suc, ◌+◌, ◌-◌, ◌≤◌, ◌<◌, min}
use native.Mathlib.Numerals.{add-one}
use native.Mathlib.Omega.{arith}
use borrow.Author.Tests.{eqb-true, ne_eqb}
use lib.Dec.{eqb}
use lib.ListN.{length, drop, take, get_or, drop_of_length-le, length-drop, get_or-eq_default}
use lib.Seq.{get_or-drop, take-suc, take_all}
use Rattle.definition.specs.Text.{Bytes, byte_at}
use Rattle.definition.specs.Scan.{from, second, begins, before}
use Rattle.definition.specs.Place.{Place, after, after_all, place_of}
use Rattle.std.specs.Prelude.{Option, MatchOption}
use Rattle.std.specs.List.{AllWithin, HoldsAt}
use Rattle.std.specs.Option.{unwrap_or}
use Rattle.std.proofs.lemmas.Iterator.{index_from_first}
use Rattle.std.proofs.lemmas.List.{take_min}
use Rattle.lemmas.proofs.Branch.{yes, nay}
use Rattle.lemmas.proofs.Lists.{drop-next}
use Rattle.definition_laws.proofs.LexerProgress.{first-from}

-- inside a text it does not matter what stands past its end
pub inside : (l : Bytes) (i : ℕ) → i < length l → get_or l i 0 ≡ byte_at l i
inside [] i h = let z : ◌≡◌ {A = ℕ} 0 1 = absurd (omega arith) in absurd (omega arith)
inside (x ∷ l) zero h = refl
inside (x ∷ l) (suc i) h = inside l i (omega arith)

pub outside : (l : Bytes) (i : ℕ) → length l ≤ i → byte_at l i ≡ 256
outside l i h = simp get_or-eq_default

pub second_from : (text : Bytes) (at : ℕ) → second (from text at) ≡ byte_at text (at + 1)
second_from text at = get_or-drop at text 1 256

pub from_cons : (text : Bytes) (i : ℕ) → i < length text → from text i ≡ byte_at text i ∷ from text (i + 1)
from_cons text i h = drop-next text i 256 h

pub from_end : (text : Bytes) (i : ℕ) → length text ≤ i → from text i ≡ []
from_end text i h = drop_of_length-le text h

-- a part of a list that is lent from an index to the end
pub tail_part : (l : Bytes) (a : ℕ) → take (length l - a) (drop a l) ≡ drop a l
tail_part l a = take_all (length l - a) (drop a l) (rw (length-drop a l) (omega arith))

-- where a byte was read, the text goes on
pub there : (text : Bytes) (i b : ℕ) → byte_at text i ≡ b → b < 256 → i < length text
there [] i b e h = let q : 256 ≡ b = e in absurd (omega arith)
there (x ∷ l) zero b e h = omega arith
there (x ∷ l) (suc i) b e h = let k = there l i b e h in omega arith

-- two bytes stand next, or not
module _ (a b : ℕ) (text : Bytes) (i : ℕ) where
  pub begins-is : begins a b (from text i) ≡ (eqb (byte_at text i) a && eqb (byte_at text (i + 1)) b)
  unfolding begins
  begins-is = rw (first-from text i, second_from text i)

  pub begins-inside : b < 256 → begins a b (from text i) ≡ true → i + 2 ≤ length text
  begins-inside h e =
      let q = eqb-true (byte_at text (i + 1)) b (and_elim_right (eqb (byte_at text i) a) (eqb (byte_at text (i + 1)) b) (sym begins-is ∙ e)) in
      let k = there text (i + 1) b q h in omega arith

pub ruleset two_bytes = (begins-is, inside, outside)

-- how far, by the next byte
module _ (stop : Bytes → Bool) (b : ℕ) (bs : Bytes) where
  pub stopped-at : stop (b ∷ bs) ≡ true → before stop (b ∷ bs) ≡ 0
  unfolding before
  stopped-at e = yes _ _ _ e

  pub going-at : stop (b ∷ bs) ≡ false → before stop (b ∷ bs) ≡ suc (before stop bs)
  unfolding before
  going-at e = nay _ _ _ e

-- where a closure stops that says of each byte what a stop of the definition says
module _ (says : ℕ → Bool → Type 0) (stop : Bytes → Bool) (agrees : (b : ℕ) (t : Bool) (bs : Bytes) → says b t → t ≡ stop (b ∷ bs)) where
  pub first_or_all : (bs : Bytes) (r : Option ℕ)
      → MatchOption r (AllWithin (λ b. says b false) bs 0 (length bs)) (λ n. (n < length bs) × HoldsAt (λ b. says b true) bs n × AllWithin (λ b. says b false) bs 0 n)
      → unwrap_or r (length bs) ≡ before stop bs
  unfolding before
  first_or_all bs r m =
      sym (index_from_first (before stop) (λ b. says b true) (λ b. says b false) refl
      (λ x xs y. stopped-at stop x xs (sym (agrees x true xs y)))
      (λ x xs n. going-at stop x xs (sym (agrees x false xs n)) ∙ sym (add-one (before stop xs))) bs r m)

-- how far, where it goes on
pub going : (stop : Bytes → Bool) (text : Bytes) (i : ℕ) → i < length text → stop (from text i) ≡ false → before stop (from text i) ≡ suc (before stop (from text (i + 1)))
going stop text i h e = ap (before stop) (from_cons text i h) ∙ going-at stop _ _ (sym (ap stop (from_cons text i h)) ∙ e)

-- lines and columns: one byte more
pub after_more : (p : Place) (l : Bytes) (b : ℕ) → after_all p (l ++ (b ∷ [])) ≡ after (after_all p l) b
unfolding after_all
after_more p [] b = refl
after_more p (x ∷ l) b = after_more (after p x) l b

-- the place of one offset further
module _ (text : Bytes) (i : ℕ) (more : i < length text) where
  place-more : place_of text (i + 1) ≡ after (place_of text i) (get_or text i 0)
  unfolding place_of
  place-more = rw (add-one i, take-suc text i 0 more) (after_more _ (take i text) (get_or text i 0))

  module _ (line column : ℕ) (here : record { line = line; column = column } ≡ place_of text i) where
    pub next-line : get_or text i 0 ≡ 10 → record { line = line + 1; column = 1 } ≡ place_of text (i + 1)
    unfolding after
    next-line e = sym (place-more ∙ rw (← here, e))

    pub next-column : (get_or text i 0 ≡ 10 → ⊥) → record { line = line; column = column + 1 } ≡ place_of text (i + 1)
    unfolding after
    next-column e = sym (place-more ∙ rw (← here) (rw (ne_eqb _ _ e, after)))

-- all that was read
pub place_end : (text : Bytes) (n offset i : ℕ) → n ≡ min offset (length text) → length (take n text) ≤ i → place_of (take n text) i ≡ place_of text offset
unfolding place_of
place_end text n offset i e h = rw (take_all i (take n text) h, e, take_min offset text)
