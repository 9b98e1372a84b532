-- Laws of a spelling that stands somewhere. Assumes nothing.
use mathlib.Core.Path.{◌≡◌, refl, sym, ◌∙◌}
use mathlib.Core.Bool.{Bool, true, false, ◌&&◌, ◌||◌}
use mathlib.Core.List.{[], ◌∷◌}
use Prim.Native.Nat.{◌+◌, ◌-◌, ◌<◌}
use native.Mathlib.Omega.{arith}
use lib.Dec.{eqb}
use lib.ListN.{length, take, drop, length-drop}
use Rattle.std.specs.Cmp.Lexicographic.{pointwise}
use Rattle.std.specs.List.{list_any}
use Rattle.definition.specs.Text.{Bytes}
use Rattle.definition.specs.Scan.{starts_with, contains}
use Rattle.lemmas.proofs.Branch.{nay}
use Rattle.scan.proofs.Windows.{parts, windows}

-- the library's test and the definition's
pub starts-is : (word bs : Bytes) → pointwise eqb word (take (length word) bs) ≡ starts_with word bs
unfolding starts_with
starts-is [] bs = refl
starts-is (a ∷ as') [] = refl
starts-is (a ∷ as') (b ∷ bs) = by (eqb a b) (starts-is as' bs)
  where
    by : (t : Bool) → pointwise eqb as' (take (length as') bs) ≡ starts_with as' bs → (t && pointwise eqb as' (take (length as') bs)) ≡ elim t as (λ z. Bool) [ true ↦ starts_with as' bs | false ↦ false ]
    by true ih = ih
    by false ih = refl

-- what is shorter than a spelling has it nowhere
short_start : (word bs : Bytes) → length bs < length word → starts_with word bs ≡ false
unfolding starts_with
short_start [] bs h = absurd (omega arith)
short_start (a ∷ as') [] h = refl
short_start (a ∷ as') (b ∷ bs) h = by (eqb a b) (short_start as' bs (omega arith))
  where
    by : (t : Bool) → starts_with as' bs ≡ false → elim t as (λ z. Bool) [ true ↦ starts_with as' bs | false ↦ false ] ≡ false
    by true ih = ih
    by false ih = refl

nowhere : (word bs : Bytes) → length bs < length word → contains word bs ≡ false
unfolding contains
nowhere word [] h = short_start word [] h
nowhere word (b ∷ bs) h = nay _ _ _ (short_start word (b ∷ bs) h) ∙ nowhere word bs (omega arith)

pub empty_within : (word bs : Bytes) → length word ≡ 0 → contains word bs ≡ true
unfolding contains starts_with
empty_within [] [] h = refl
empty_within [] (b ∷ bs) h = refl
empty_within (a ∷ as') bs h = absurd (omega arith)

any_part : (word bs t : Bytes) → length t ≡ length bs + 1 - length word → 0 < length word → list_any (λ part. pointwise eqb word part) (parts (length word) bs t) ≡ contains word bs
unfolding contains parts
any_part word bs [] h z = sym (nowhere word bs (omega arith))
any_part word [] (x ∷ t) h z = absurd (omega arith)
any_part word (b ∷ bs) (x ∷ t) h z = rw (starts-is word (b ∷ bs)) (by (starts_with word (b ∷ bs)) (any_part word bs t (omega arith) z))
  where
    by : (s : Bool) → list_any (λ part. pointwise eqb word part) (parts (length word) bs t) ≡ contains word bs
        → (s || list_any (λ part. pointwise eqb word part) (parts (length word) bs t)) ≡ elim s as (λ z. Bool) [ true ↦ true | false ↦ contains word bs ]
    by true ih = refl
    by false ih = ih

pub somewhere : (word bs : Bytes) → 0 < length word → list_any (λ part. pointwise eqb word part) (windows (length word) bs) ≡ contains word bs
somewhere word bs z = any_part word bs (drop (length word - 1) bs) (rw (length-drop (length word - 1) bs) (omega arith)) z
