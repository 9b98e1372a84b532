-- Laws of the table of words: every word of the definition stands in its slot. Assumes nothing.
use mathlib.Core.Path.{◌≡◌, refl, sym, ◌∙◌}
use mathlib.Core.Bool.{Bool, true, false, ◌&&◌, false≢true}
use mathlib.Core.List.{List, [], ◌∷◌}
use mathlib.Mathlib.Data.Bool.Basic.{and_elim_left, and_elim_right}
use Prim.Native.Nat.{ℕ, zero, suc, ◌<◌}
use native.Mathlib.Omega.{arith}
use borrow.Author.Tests.{eqb-true, eqb-false}
use lib.Dec.{eqb}
use lib.ListN.{length}
use Rattle.std.specs.Str.{bytes_eq}
use Rattle.std.proofs.lemmas.Slice.Eq.{bytes_eq-Decides}
use Rattle.definition.specs.Text.{Bytes, bytes, same}
use Rattle.definition.specs.Word.{Spelled, attribute_words, keywords, builtin_names, words, kind_among, kind_of}
use Rattle.definition_laws.proofs.Spellings.{same-equal}
use Rattle.lemmas.proofs.Branch.{nay}
use Rattle.scan.proofs.Table.{Apart}
use Rattle.keywords.specs.Slots.{slot_of, none, spellings, spelling_of}

-- each word of a list stands in its slot
known : List Spelled → Bool
known [] = true
known (e ∷ es) = same (spelling_of (slot_of e.spelling)) e.spelling && known es

all_known : known words ≡ true
unfolding known words attribute_words keywords builtin_names same spelling_of spellings none slot_of bytes
all_known = refl

misses : (es : List Spelled) (w : Bytes) → known es ≡ true → (w ≡ spelling_of (slot_of w) → ⊥) → kind_among es w ≡ 4
unfolding known kind_among
misses [] w k m = refl
misses (e ∷ es) w k m = by (same e.spelling w) refl (misses es w (and_elim_right _ _ k) m)
  where
    by : (t : Bool) → same e.spelling w ≡ t → kind_among es w ≡ 4 → kind_among (e ∷ es) w ≡ 4
    by true q ih = let r = same-equal e.spelling w q in absurd (m (sym (rw r at (same-equal _ _ (and_elim_left _ _ k)))))
    by false q ih = nay _ _ _ q ∙ ih

-- a word that does not stand in its slot is a name, as one without a letter is
pub missed : (w s : Bytes) → s ≡ spelling_of (slot_of w) → bytes_eq w s ≡ false → 4 ≡ kind_of w
unfolding kind_of
missed w s e n = sym (misses words w all_known (λ q. false≢true (sym n ∙ (bytes_eq-Decides w s).1 (q ∙ sym e))))

pub no_letters : (w : Bytes) → length w ≡ 0 → 4 ≡ kind_of w
unfolding kind_of kind_among words attribute_words keywords builtin_names same bytes
no_letters [] e = refl
no_letters (b ∷ w) e = absurd (omega arith)

-- the slots below n that hold a word, the last one first
abbrev full : ℕ → List ℕ
full zero = []
full (suc n) = elim (same (spelling_of n) none) as (λ z. List ℕ) [ true ↦ full n | false ↦ n ∷ full n ]

pub empty : (n h : ℕ) → h < n → Apart h (full n) → spelling_of h ≡ none
empty zero h l a = absurd (omega arith)
empty (suc n) h l a = by (same (spelling_of n) none) refl a (eqb h n) refl (λ q b. empty n h q b)
  where
    by : (t : Bool) → same (spelling_of n) none ≡ t → Apart h (elim t as (λ z. List ℕ) [ true ↦ full n | false ↦ n ∷ full n ]) → (u : Bool) → eqb h n ≡ u → (h < n → Apart h (full n) → spelling_of h ≡ none) → spelling_of h ≡ none
    by true e a true f ih = rw (eqb-true h n f) (same-equal _ _ e)
    by true e a false f ih = let m = eqb-false h n f in ih (omega (arith, m)) a
    by false e a u f ih = ih (omega (arith, a.1)) a.0
