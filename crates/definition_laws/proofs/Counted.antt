-- The rounds of the size of a row, and of a number's digits, are enough. Assumes nothing.
use mathlib.Core.Path.{◌≡◌, refl, ap}
use mathlib.Core.Option.{Option}
use Prim.Native.Nat.{ℕ, zero, suc, ◌/◌, ◌≤◌, ◌<◌}
use native.Mathlib.Omega.{arith}
use lib.Dec.{ltb}
use borrow.Author.Tests.{ltb-true, ltb-false}
use Rattle.definition.specs.Text.{Bytes}
use Rattle.definition.specs.Model.{Model}
use Rattle.definition.specs.Row.{Row, void, int, float, bool, pointer, array, composite, enumeration, function, typedef, qualified}
use Rattle.definition.specs.Table.{Table, row_at}
use Rattle.definition.specs.Size.{array_size, size_by, size_within}
use Rattle.definition.specs.Listing.{digits_before}
use Rattle.definition_laws.specs.Enough.{Enough}
use Rattle.definition_laws.proofs.Same.{same_bool, enough}

-- the size of a row depends on the sizes of other rows only
pub sizes-same : (m : Model) (size size' : ℕ → Option ℕ) → ((n : ℕ) → size n ≡ size' n) → (r : Row) → size_by m size r ≡ size_by m size' r
unfolding size_by
sizes-same m size size' h void = refl
sizes-same m size size' h (int s g) = refl
sizes-same m size size' h (float s) = refl
sizes-same m size size' h bool = refl
sizes-same m size size' h (pointer r) = refl
sizes-same m size size' h (array r b) = ap (λ z. array_size z b) (h r)
sizes-same m size size' h (composite u w s e) = refl
sizes-same m size size' h (enumeration w s e) = refl
sizes-same m size size' h (function r v e) = refl
sizes-same m size size' h (typedef w r) = h r
sizes-same m size size' h (qualified r q) = h r

pub size-agree : (m : Model) (t : Table) (f g n : ℕ) → n < f → n < g → size_within f m t n ≡ size_within g m t n
unfolding size_within
size-agree m t zero g n p q = absurd (omega arith)
size-agree m t (suc f) zero n p q = absurd (omega arith)
size-agree m t (suc f) (suc g) n p q = sizes-same m _ _ (λ r. same_bool (ltb r n) (λ e. let l = ltb-true r n e in size-agree m t f g r (omega arith) (omega arith)) (λ e. refl)) (row_at t n)

-- so `size_of` is the size with any bound above the row
pub size-enough : (m : Model) (t : Table) (n : ℕ) → Enough (λ f. size_within f m t n) (suc n)
size-enough m t n = enough (λ f g. size-agree m t f g n)

pub digits_agree : (f g n : ℕ) (ds : Bytes) → n ≤ f → n ≤ g → digits_before f n ds ≡ digits_before g n ds
unfolding digits_before
digits_agree zero zero n ds p q = refl
digits_agree zero (suc g) n ds p q = let z : n ≡ 0 = omega arith in rw z
digits_agree (suc f) zero n ds p q = let z : n ≡ 0 = omega arith in rw z
digits_agree (suc f) (suc g) n ds p q = same_bool (ltb n 10) (λ e. refl) (λ e. let l = ltb-false n 10 e in digits_agree f g (n / 10) _ (omega arith) (omega arith))

-- so `decimal` is the number's digits with any bound from the number on
pub digits_enough : (n : ℕ) (ds : Bytes) → Enough (λ f. digits_before f n ds) n
digits_enough n ds = record { same = λ f p. digits_agree f n n ds p (omega arith) }
