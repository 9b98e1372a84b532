-- What goes by whether a number is below a limit, for any limit. Assumes nothing.
use mathlib.Core.Path.{◌≡◌, refl}
use mathlib.Core.Bool.{Bool, true, false}
use Prim.Native.Nat.{ℕ, ◌≤◌, ◌<◌}
use lib.Dec.{ltb}
use borrow.Author.Tests.{ltb-true, ltb-false, lt-ltb, le-ltb}

module _ {A : Type 0} (limit x : ℕ) (a b : A) where
  abbrev pub limited : A
  limited = elim (ltb x limit) as (λ z. A) [ true ↦ a | false ↦ b ]

  pub below : x < limit → limited ≡ a
  below p = rw (lt-ltb x limit p, limited)

  pub past : limit ≤ x → limited ≡ b
  past p = rw (le-ltb x limit p, limited)

  pub either : (P : A → Type 0) → (x < limit → P a) → (limit ≤ x → P b) → P limited
  either P f g = go (ltb x limit) refl
    where
      go : (t : Bool) → ltb x limit ≡ t → P (elim t as (λ z. A) [ true ↦ a | false ↦ b ])
      go true e = f (ltb-true x limit e)
      go false e = g (ltb-false x limit e)
