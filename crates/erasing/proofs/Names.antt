-- The names' part taken out. Assumes nothing.
use mathlib.Core.Path.{◌≡◌, refl, sym, ap, ◌∙◌}
use mathlib.Core.Bool.{Bool, true, false}
use mathlib.Core.List.{List, ◌++◌}
use Prim.Native.Nat.{ℕ, ◌+◌, ◌-◌, ◌*◌, ◌≤◌, ◌<◌}
use native.Mathlib.Omega.{arith}
use lib.Dec.{ltb}
use lib.ListN.{length, get_or, replicate, length-replicate, get_or-replicate, get_or-append}
use lib.Seq.{ext_get_or}
use borrow.Author.Tests.{ltb-true, ltb-false}
use Rattle.definition.specs.Limit.{max_names}
use Rattle.definition.specs.Table.{Table}
use Rattle.definition.specs.Lent.{table_words}
use Rattle.definition.specs.Region.{words_length, names_at}
use Rattle.table.specs.Held.{reading_words, top_at, marks_at, InWords, Marked}
use Rattle.table.proofs.Flat.{get_after}
use Rattle.table.proofs.Regions.{table-long, words_long}
use Rattle.table.proofs.Index.{rest-get}
use Rattle.erasing.specs.Taken.{Out, NamesOut}
use Rattle.erasing.specs.Erased.{IndexCleared}
use Rattle.erasing.proofs.Blanks.{Blank}

-- the index, then the marks
module _ {top : ℕ} {w u w' : List ℕ} (o : Out 0 names_at (names_at + top) (names_at + marks_at) w u) (b : Blank 0 (names_at + marks_at) words_length u w') (e : top ≡ get_or w (names_at + top_at) 0) where
  zero-by : ((i : ℕ) → names_at + get_or w (names_at + top_at) 0 ≤ i → i < names_at + marks_at → get_or w i 0 ≡ 0) → (i : ℕ) → names_at ≤ i → i < words_length → (t : Bool) → ltb i (names_at + marks_at) ≡ t → get_or w' i 0 ≡ 0
  zero-by f i p q true s = let l = ltb-true i (names_at + marks_at) s in b.others i (λ x y. omega arith) ∙ o.zero (λ j x y. f j (omega arith) y) i p l
  zero-by f i p q false s = b.inside i (ltb-false i (names_at + marks_at) s) q

  pub names-out : NamesOut w w'
  names-out = record {
    long = b.long ∙ o.long;
    zero = λ f i p q. zero-by f i p q (ltb i (names_at + marks_at)) refl;
    others = λ i p. b.others i (λ x y. omega arith) ∙ o.others i (λ x y. omega arith);
  }

-- where the marks say that the index is blank it is
module _ {t : Table} {cs w : List ℕ} (h : InWords t w) (m : Marked cs h.rest) where
  pub blank-index : (i : ℕ) → names_at + get_or w (names_at + top_at) 0 ≤ i → i < names_at + marks_at → get_or w i 0 ≡ 0
  blank-index i p q =
      let g = rest-get h top_at (names_at + top_at) refl in
      rest-get h (i - names_at) i (omega arith) ∙ m.blank (i - names_at) (omega arith) (omega arith)

module _ {w w' : List ℕ} (n : NamesOut w w') where
  at-by : (t : Table) (h : InWords t w) → ((i : ℕ) → names_at ≤ i → i < words_length → get_or w' i 0 ≡ 0) → (i : ℕ) → i < words_length → (z : Bool) → ltb i names_at ≡ z
      → get_or w' i 0 ≡ get_or (reading_words t (replicate (2 * max_names) 0)) i 0
  unfolding reading_words
  at-by t h f i p true e =
      let l = ltb-true i names_at e in
      let a : i < length (table_words t) = omega (arith, table-long t h.fits) in
      n.others i l ∙ (ap (λ (x : List ℕ). get_or x i 0) h.are ∙ (get_or-append (table_words t) h.rest 0 i a ∙ sym (get_or-append (table_words t) (replicate (2 * max_names) 0) 0 i a)))
  at-by t h f i p false e =
      let l = ltb-false i names_at e in
      let s : names_at + (i - names_at) ≡ i = omega arith in
      f i l p ∙ sym (ap (λ (x : ℕ). get_or (table_words t ++ replicate (2 * max_names) 0) x 0) (sym s)
      ∙ (get_after (table_words t) (replicate (2 * max_names) 0) names_at (i - names_at) 0 (table-long t h.fits) ∙ get_or-replicate (2 * max_names) (i - names_at) 0 0 (omega arith)))

  pub index-cleared : IndexCleared w w'
  index-cleared = record {
    run = λ t cs h m.
        let l : length w' ≡ words_length = n.long ∙ (ap length h.are ∙ words_long t h.fits h.rest h.long) in
        ext_get_or 0 w' (reading_words t (replicate (2 * max_names) 0)) (l ∙ sym (words_long t h.fits (replicate (2 * max_names) 0) (length-replicate {A = ℕ} (2 * max_names) 0)))
        (λ i p. at-by t h (n.zero (blank-index h m)) i (omega arith) (ltb i names_at) refl);
  }

-- a slice of another length holds no table
pub index-none : (w : List ℕ) → (length w ≡ words_length → ⊥) → IndexCleared w w
index-none w f = record { run = λ t cs h m. absurd (f (ap length h.are ∙ words_long t h.fits h.rest h.long)) }
