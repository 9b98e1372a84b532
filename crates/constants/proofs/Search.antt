-- A step of the search for a name. Assumes nothing.
use mathlib.Core.Path.{◌≡◌, sym, ap, ◌∙◌}
use mathlib.Core.List.{List}
use mathlib.Core.Option.{some}
use Prim.Native.Nat.{ℕ, zero, suc, ◌-◌, ◌<◌, min}
use native.Mathlib.Omega.{arith}
use borrow.Author.Tests.{eq-eqb, ne_eqb}
use lib.IntN.{ℤ, pos}
use lib.ListN.{get_or}
use Rattle.constants.specs.Lookup.{name_in, last_value, bound_in, known_value}

module _ (w : List ℕ) (v : List ℤ) (name : ℕ) where
  pub hit : (k : ℕ) → 0 < k → name_in w (k - 1) ≡ name → last_value w v k name ≡ some (get_or v (k - 1) (pos 0))
  unfolding last_value
  hit zero p e = absurd (omega arith)
  hit (suc k) p e = let h : suc k - 1 ≡ k = omega arith in rw h (rw (eq-eqb (name_in w k) name (rw h at e), last_value))

  pub miss : (k : ℕ) → 0 < k → (name_in w (k - 1) ≡ name → ⊥) → last_value w v k name ≡ last_value w v (k - 1) name
  unfolding last_value
  miss zero p e = absurd (omega arith)
  miss (suc k) p e = let h : suc k - 1 ≡ k = omega arith in rw h (rw (ne_eqb (name_in w k) name (rw h at e), last_value))

  -- the search begins at the bound
  pub known : (count bound from : ℕ) → from ≡ min count bound → bound ≡ bound_in w name → known_value w v count name ≡ last_value w v from name
  unfolding known_value
  known count bound from e f = sym (ap (λ (k : ℕ). last_value w v k name) (e ∙ ap (λ (b : ℕ). min count b) f))
