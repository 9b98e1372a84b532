-- Tests joined and turned. `mathlib.Mathlib.Data.Bool.Basic` has what a true `&&` says of its halves (`and_elim_left`, `and_elim_right`), and when `&&` and `||` are true
-- (`and_intro`, `or_inl`, `or_inr`). Assumes nothing.
use mathlib.Core.Path.{◌≡◌, refl, sym, ◌∙◌}
use mathlib.Core.Bool.{Bool, true, false, ◌&&◌, ◌||◌}
use mathlib.Mathlib.Data.Bool.Basic.{or-eq-false-eq-eq-false-and-eq-false}
use Prim.Native.Nat.{ℕ}
use lib.Dec.{eqb}
use borrow.Author.Tests.{eqb-true, eqb-false, eq-eqb, ne_eqb}

-- `&&` is false by its first half, and by its second
pub not_first : {a : Bool} (b : Bool) → a ≡ false → (a && b) ≡ false
not_first b e = rw e

pub not_second : (a : Bool) {b : Bool} → b ≡ false → (a && b) ≡ false
not_second true e = e
not_second false e = refl

-- `||` is false where both halves are, and only there
pub neither : {a b : Bool} → a ≡ false → b ≡ false → (a || b) ≡ false
neither e f = rw (e, f)

pub neither-first : (a b : Bool) → (a || b) ≡ false → a ≡ false
neither-first a b e = ((or-eq-false-eq-eq-false-and-eq-false a b).0 e).0

pub neither-second : (a b : Bool) → (a || b) ≡ false → b ≡ false
neither-second a b e = ((or-eq-false-eq-eq-false-and-eq-false a b).0 e).1

pub eqb_sym : (a b : ℕ) → eqb a b ≡ eqb b a
eqb_sym a b = by (eqb a b) refl
  where
    by : (t : Bool) → eqb a b ≡ t → eqb a b ≡ eqb b a
    by true e = e ∙ sym (eq-eqb b a (sym (eqb-true a b e)))
    by false e = e ∙ sym (ne_eqb b a (λ q. eqb-false a b e (sym q)))
