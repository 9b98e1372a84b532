-- Every typedef and qualified type of an accepted table has the shape of the type that it names: it names a lower row.
use mathlib.Core.Path.{◌≡◌, refl, sym, ◌∙◌, ap, subst}
use mathlib.Core.Bool.{Bool, true, false}
use Prim.Native.Nat.{ℕ, zero, suc, ◌<◌}
use native.Mathlib.Omega.{arith}
use native.Mathlib.Decide.{dec_lt}
use lib.Dec.{T, ltb, lt→ltb}
use lib.ListN.{length, get_or-eq_default}
use Rattle.definition.specs.Row.{Row, void, int, float, bool, pointer, array, composite, enumeration, function, typedef, qualified, target_of}
use Rattle.definition.specs.Table.{Table, row_at}
use Rattle.definition_laws.specs.Inside.{Inside}
use Rattle.walks.specs.Walk.{Shape, whole, shape_by, shape_within, shape_of, LooksThrough}
use Rattle.walks.proofs.WalkProof.{lower-agree}

-- ---- shapes: the bound on the steps does not matter

shape_by_agree : (s s' : ℕ → Shape) → ((r : ℕ) → s r ≡ s' r) → (n : ℕ) (x : Row) → shape_by s n x ≡ shape_by s' n x
unfolding shape_by
shape_by_agree s s' h n void = refl
shape_by_agree s s' h n (int z g) = refl
shape_by_agree s s' h n (float z) = refl
shape_by_agree s s' h n bool = refl
shape_by_agree s s' h n (pointer r) = refl
shape_by_agree s s' h n (array r b) = refl
shape_by_agree s s' h n (composite u w z e) = refl
shape_by_agree s s' h n (enumeration w z e) = refl
shape_by_agree s s' h n (function r v e) = refl
shape_by_agree s s' h n (typedef w r) = h r
shape_by_agree s s' h n (qualified r q) = h r

module _ (t : Table) where
  shape_agree : (f g n : ℕ) → n < f → n < g → shape_within f t n ≡ shape_within g t n
  unfolding shape_within
  shape_agree zero g n h k = absurd (omega arith)
  shape_agree (suc f) zero n h k = absurd (omega arith)
  shape_agree (suc f) (suc g) n h k =
      shape_by_agree _ _ (λ r. lower-agree whole n (λ x. shape_within f t x) (λ x. shape_within g t x) r (λ l. shape_agree f g r (omega arith) (omega arith))) n (row_at t n)

  -- what row n is told of row r
  abbrev asked : ℕ → ℕ → Shape
  asked n r = elim (ltb r n) [ true ↦ shape_within n t r | false ↦ whole ]

  shape_at : (n : ℕ) (x : Row) → row_at t n ≡ x → shape_of t n ≡ shape_by (λ r. asked n r) n x
  unfolding shape_within
  shape_at n x e = ap (λ y. shape_by (λ r. asked n r) n y) e

  lower-asked : (n r : ℕ) → r < n → asked n r ≡ shape_of t r
  lower-asked n r l = at (ltb r n) (lt→ltb r n l)
    where
      at : (b : Bool) → T b → ◌≡◌ {A = Shape} (elim b [ true ↦ shape_within n t r | false ↦ whole ]) (shape_of t r)
      at true h = shape_agree n (suc r) r l (omega arith)
      at false h = absurd h

  module _ (inside : Inside t) where
    -- what is not void stands in the table, after row 0
    names-lower : (n : ℕ) (x : Row) → (void ≡ x → ⊥) → row_at t n ≡ x → target_of x < n
    names-lower n x ne e = at (dec_lt 0 n) (dec_lt n (length t.rows))
      where
        at : Dec (0 < n) → Dec (n < length t.rows) → target_of x < n
        at (yes p) (yes l) = subst (λ y. target_of y < n) e (inside.lower n p l)
        at (yes p) (no l) = absurd (ne (sym (get_or-eq_default t.rows void {n = n} (omega arith)) ∙ e))
        at (no p) d = let z : n ≡ 0 = omega arith in absurd (ne (sym inside.void_first ∙ ap (λ k. row_at t k) (sym z) ∙ e))

    pub inside_looks_through : LooksThrough t
    unfolding shape_by target_of
    inside_looks_through = record {
      typedefs = λ n w r e. shape_at n (typedef w r) e ∙ lower-asked n r (names-lower n (typedef w r) (λ z. (let y : ◌≡◌ {A = ℕ} 0 1 = cc in omega arith)) e);
      qualifiers = λ n r q e. shape_at n (qualified r q) e ∙ lower-asked n r (names-lower n (qualified r q) (λ z. (let y : ◌≡◌ {A = ℕ} 0 1 = cc in omega arith)) e);
    }
