-- Spellings that are the same are equal lists. Assumes nothing.
use mathlib.Core.Path.{◌≡◌, refl, sym, ◌∙◌}
use mathlib.Core.Bool.{Bool, true, false, false≢true}
use mathlib.Core.List.{[], ◌∷◌}
use lib.Dec.{eqb}
use borrow.Author.Tests.{eqb-true}
use Rattle.definition.specs.Text.{Bytes, same}
use Rattle.lemmas.proofs.Branch.{yes, nay}

pub same-equal : (a b : Bytes) → same a b ≡ true → a ≡ b
unfolding same
same-equal [] [] e = refl
same-equal [] (y ∷ b) e = absurd (false≢true e)
same-equal (x ∷ a) [] e = absurd (false≢true e)
same-equal (x ∷ a) (y ∷ b) e = by (eqb x y) refl (same-equal a b)
  where
    by : (t : Bool) → eqb x y ≡ t → (same a b ≡ true → a ≡ b) → x ∷ a ≡ y ∷ b
    by true p f = let q = eqb-true x y p in let r = f (sym (yes _ _ _ p) ∙ e) in rw (q, r)
    by false p f = absurd (false≢true (sym (nay _ (same a b) false p) ∙ e))
