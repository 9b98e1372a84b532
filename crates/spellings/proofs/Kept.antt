-- The trees when one token more is stored. Assumes nothing.
use mathlib.Core.Path.{◌≡◌, refl, sym, ap, ◌∙◌}
use mathlib.Core.Bool.{Bool, true, false}
use mathlib.Core.List.{List}
use Prim.Native.Nat.{ℕ, suc, ◌+◌, ◌*◌, ◌≤◌, ◌<◌}
use native.Mathlib.Omega.{arith}
use native.Mathlib.Numerals.{add-one}
use borrow.Author.Tests.{eqb-true, eqb-false}
use lib.Dec.{eqb}
use lib.ListN.{length, get_or, set}
use lib.Seq.{get_or-set_same, get_or-set_other}
use Rattle.definition.specs.Text.{Bytes}
use Rattle.definition.specs.Kind.{is_name}
use Rattle.lemmas.proofs.Lists.{get_d_set_at, get_d_set_before}
use Rattle.spellings.specs.Names.{spelled_by}
use Rattle.spellings.specs.Chain.{slot, Reach, here, there, Keeps, Rising, Chained}

-- a way from before only goes by links that are kept
reach_kept : (heads : ℕ) (ls ls' : List ℕ) (w : Bytes) (k : Keeps ls ls') (d s j : ℕ) → Reach heads ls w d s j → Reach heads ls' w d s j
reach_kept heads ls ls' w k d s _ (here _ _ j e) = here d s j (k s (λ o. absurd (omega (arith, o, e))) ∙ e)
reach_kept heads ls ls' w k d s _ (there _ _ i j e r) = there d s i j (k s (λ o. absurd (omega (arith, o, e))) ∙ e) (reach_kept heads ls ls' w k (d + 1) _ j r)

module _ (text : Bytes) (ks ns ls ls' : List ℕ) (heads count k n : ℕ) (g : Chained text ks ns ls heads count)
    (lk : count < length ks) (ln : count < length ns) (keeps : Keeps ls ls') (rising' : Rising ls' heads (count + 1))
    (new : is_name k ≡ true → (i : ℕ) × Reach heads ls' (spelled_by text n) 0 (slot (spelled_by text n) heads) i × (get_or (set ns count n) i 0 ≡ n) × (is_name (get_or (set ks count k) i 0) ≡ true) × (i < count + 1)) where
  chain_by : (j : ℕ) (t : Bool) → eqb j count ≡ t → j < count + 1 → is_name (get_or (set ks count k) j 0) ≡ true
      → (i : ℕ) × Reach heads ls' (spelled_by text (get_or (set ns count n) j 0)) 0 (slot (spelled_by text (get_or (set ns count n) j 0)) heads) i × (get_or (set ns count n) i 0 ≡ get_or (set ns count n) j 0) × (is_name (get_or (set ks count k) i 0) ≡ true) × (i < count + 1)
  chain_by j true e p q =
      let i = eqb-true j count e in
      let u = new (sym (ap is_name (get_d_set_at ks count j k 0 lk i)) ∙ q) in
      rw (get_d_set_at ns count j n 0 ln i) u
  chain_by j false e p q =
      let i = eqb-false j count e in
      let l : j < count = omega arith in
      let u = g.chain j l (sym (ap is_name (get_d_set_before ks count j k 0 l)) ∙ q) in
      let b = u.4 in
      let r = reach_kept heads ls ls' (spelled_by text (get_or ns j 0)) keeps 0 (slot (spelled_by text (get_or ns j 0)) heads) u.0 u.1 in
      rw (get_d_set_before ns count j n 0 l) (u.0, r, get_d_set_before ns count u.0 n 0 b ∙ u.2, ap is_name (get_d_set_before ks count u.0 k 0 b) ∙ u.3, omega (arith, b))

  chained_more : Chained text (set ks count k) (set ns count n) ls' heads (count + 1)
  chained_more = record { rising = rising'; chain = λ j p q. chain_by j (eqb j count) refl p q }

module _ (text : Bytes) (ks ns ls : List ℕ) (heads count k n : ℕ) (g : Chained text ks ns ls heads count)
    (lk : count < length ks) (ln : count < length ns) where
  rising-more : Rising ls heads (count + 1)
  rising-more = record { low = λ s. (let l = g.rising.low s in omega arith); rises = g.rising.rises }

  -- a token that is no name
  pub chained-plain : is_name k ≡ false → Chained text (set ks count k) (set ns count n) ls heads (count + 1)
  chained-plain e =
      chained_more text ks ns ls ls heads count k n g lk ln (λ s z. refl) rising-more (λ q. let f = sym e ∙ q in let y : ◌≡◌ {A = ℕ} 0 1 = cc in absurd (omega arith))

  -- a token with the name of a token before
  pub chained-known : (j : ℕ) → j < count → is_name (get_or ks j 0) ≡ true → n ≡ get_or ns j 0 → Chained text (set ks count k) (set ns count n) ls heads (count + 1)
  chained-known j l e q =
      let u = g.chain j l e in
      let b = u.4 in
      let m : get_or (set ns count n) u.0 0 ≡ get_or ns u.0 0 = get_or-set_other ns count u.0 n 0 (λ z. absurd (omega (arith, b, z))) in
      let t : get_or (set ks count k) u.0 0 ≡ get_or ks u.0 0 = get_or-set_other ks count u.0 k 0 (λ z. absurd (omega (arith, b, z))) in
      chained_more text ks ns ls ls heads count k n g lk ln (λ s z. refl) rising-more
      (λ x. (u.0, rw q u.1, m ∙ (u.2 ∙ sym q), ap is_name t ∙ u.3, omega (arith, b)))

  -- the first token of a name, put at a free link by which its spelling comes to it
  module _ (s : ℕ) (free : get_or ls s 0 ≡ 0) (within : s < heads + 2 * count) (long : s < length ls)
      (path : (ls' : List ℕ) (j : ℕ) → Keeps ls ls' → get_or ls' s 0 ≡ suc j → Reach heads ls' (spelled_by text n) 0 (slot (spelled_by text n) heads) j) where
    abbrev ls' : List ℕ
    ls' = set ls s (count + 1)

    at_spot : (i : ℕ) → i ≡ s → get_or ls' i 0 ≡ count + 1
    at_spot i e = ap (λ (x : ℕ). get_or ls' x 0) e ∙ get_or-set_same ls s (count + 1) 0 long

    off_spot : (i : ℕ) → eqb i s ≡ false → get_or ls' i 0 ≡ get_or ls i 0
    off_spot i e = get_or-set_other ls s i (count + 1) 0 (eqb-false i s e)

    keeps-by : (i : ℕ) (t : Bool) → eqb i s ≡ t → (get_or ls i 0 ≡ 0 → ⊥) → get_or ls' i 0 ≡ get_or ls i 0
    keeps-by i true e z = absurd (z (ap (λ (x : ℕ). get_or ls x 0) (eqb-true i s e) ∙ free))
    keeps-by i false e z = off_spot i e

    low_by : (i : ℕ) (t : Bool) → eqb i s ≡ t → get_or ls' i 0 ≤ count + 1
    low_by i true e = let a = at_spot i (eqb-true i s e) in omega arith
    low_by i false e = let a = off_spot i e in let l = g.rising.low i in omega arith

    rises_by : (i b : ℕ) (t : Bool) → eqb (heads + 2 * i + b) s ≡ t → b < 2 → 0 < get_or ls' (heads + 2 * i + b) 0 → i + 1 < get_or ls' (heads + 2 * i + b) 0
    rises_by i b true e p q = let o = eqb-true (heads + 2 * i + b) s e in let a = at_spot (heads + 2 * i + b) o in omega arith
    rises_by i b false e p q = let a = off_spot (heads + 2 * i + b) e in let l = g.rising.rises i b p (omega (arith, a, q)) in omega (arith, a, l)

    pub chained-new : Chained text (set ks count k) (set ns count n) ls' heads (count + 1)
    chained-new =
        chained_more text ks ns ls ls' heads count k n g lk ln (λ i z. keeps-by i (eqb i s) refl z)
        (record { low = λ i. low_by i (eqb i s) refl; rises = λ i b p q. rises_by i b (eqb (heads + 2 * i + b) s) refl p q })
        (λ e. (count, path ls' count (λ i z. keeps-by i (eqb i s) refl z) (at_spot s refl ∙ add-one count), get_or-set_same ns count n 0 ln, ap is_name (get_or-set_same ks count k 0 lk) ∙ e, omega arith))
