-- Names that are listed and struck out. Assumes nothing.
use mathlib.Core.Path.{◌≡◌, refl, sym, ap, ◌∙◌}
use mathlib.Core.Bool.{Bool, true, false, ◌||◌, false≢true, or-false, or_assoc}
use mathlib.Core.List.{List, [], ◌∷◌, ◌++◌}
use mathlib.Mathlib.Data.Bool.Basic.{and_elim_right}
use Prim.Native.Nat.{ℕ, ◌+◌, ◌-◌, ◌*◌, ◌≤◌, ◌<◌}
use native.Mathlib.Omega.{arith}
use native.Mathlib.Numerals.{add-one}
use lib.Dec.{eqb}
use lib.ListN.{length, get_or, set}
use lib.Seq.{get_or-set_same, get_or-set_other}
use borrow.Author.Tests.{ne_eqb, eqb-true, eqb-false}
use Rattle.definition.specs.Kind.{is_name}
use Rattle.definition.specs.NameTable.{is_held}
use Rattle.definition.specs.Limit.{max_text}
use Rattle.definition_laws.specs.Columns.{Columns}
use Rattle.definition_laws.proofs.Columns.{columns-short}
use Rattle.name_table.specs.Names.{is_first}
use Rattle.name_table.specs.Striking.{column, PlacesBelow, Listed, slot, left, Struck, Found}

-- ---- listing

pub few_tokens : {ks ps ns : List ℕ} → Columns ks ps ns → length ks ≤ max_text
few_tokens c = columns-short c

-- the names of the tokens before i are listed
pub record ListedTo (ks ps ns m : List ℕ) (i : ℕ) : Type 0 where
  pub at : (j : ℕ) → j < i → is_first ks ps ns j ≡ true → get_or m (get_or ps j 0) 0 ≡ j + 1

module _ {ks ps ns m : List ℕ} {i : ℕ} (h : ListedTo ks ps ns m i) where
  module _ (c : Columns ks ps ns) (l : i < length ks) (below : PlacesBelow ps (length m)) where
    pub list_more : ListedTo ks ps ns (set m (get_or ps i 0) (i + 1)) (i + 1)
    list_more = record { at = λ j q e. go j q e (eqb j i) refl }
      where
        go : (j : ℕ) → j < i + 1 → is_first ks ps ns j ≡ true → (b : Bool) → eqb j i ≡ b → get_or (set m (get_or ps i 0) (i + 1)) (get_or ps j 0) 0 ≡ j + 1
        go j q e true t = rw (eqb-true j i t) (get_or-set_same m (get_or ps i 0) (i + 1) 0 (below.at i (omega (arith, c.places))))
        go j q e false t =
            let z : j < i = omega (arith, eqb-false j i t) in
            let r = c.rising j i z l in
            get_or-set_other m (get_or ps i 0) (get_or ps j 0) (i + 1) 0 (λ y. omega arith) ∙ h.at j z e

  pub list_same : is_first ks ps ns i ≡ false → ListedTo ks ps ns m (i + 1)
  list_same f = record { at = λ j q e. go j q e (eqb j i) refl }
    where
      go : (j : ℕ) → j < i + 1 → is_first ks ps ns j ≡ true → (b : Bool) → eqb j i ≡ b → get_or m (get_or ps j 0) 0 ≡ j + 1
      go j q e true t = absurd (false≢true (sym f ∙ (rw (eqb-true j i t) at e)))
      go j q e false t = h.at j (omega (arith, eqb-false j i t)) e

  pub list_all : length ks ≤ i → Listed ks ps ns m
  list_all q = record { at = λ j l e. h.at j (omega arith) e }

pub list_none : {ks ps ns m : List ℕ} → ListedTo ks ps ns m 0
list_none = record { at = λ j q e. absurd (omega arith) }

-- ---- striking out

pub held-append : (n : ℕ) (xs ys : List ℕ) → is_held n (xs ++ ys) ≡ (is_held n xs || is_held n ys)
unfolding is_held
held-append n [] ys = refl
held-append n (x ∷ xs) ys = go (eqb x n) (held-append n xs ys)
  where
    go : (b : Bool) → is_held n (xs ++ ys) ≡ (is_held n xs || is_held n ys)
        → ◌≡◌ {A = Bool} (elim b as (λ z. Bool) [ true ↦ true | false ↦ is_held n (xs ++ ys) ]) ((elim b as (λ z. Bool) [ true ↦ true | false ↦ is_held n xs ]) || is_held n ys)
    go true h = refl
    go false h = h

held_one : (n h : ℕ) → is_held n (h ∷ []) ≡ eqb h n
unfolding is_held
held_one n h = go (eqb h n)
  where
    go : (b : Bool) → ◌≡◌ {A = Bool} (elim b as (λ z. Bool) [ true ↦ true | false ↦ false ]) b
    go true = refl
    go false = refl

pub struck_none : {ns m : List ℕ} → Struck ns [] m m
unfolding is_held
struck_none = record { at = λ j q b e. e ∙ ap (λ (x : Bool). left x (j + 1)) (sym (or-false b)) }

-- one region after the other
pub struck_on : {ns hs gs m m₁ m₂ : List ℕ} → Struck ns hs m m₁ → Struck ns gs m₁ m₂ → Struck ns (hs ++ gs) m m₂
struck_on {ns} {hs} {gs} f g = record {
  at = λ j q b e.
      let n = get_or ns j 0 in
      g.at j q (b || is_held n hs) (f.at j q b e) ∙ ap (λ (x : Bool). left x (j + 1)) (or_assoc b (is_held n hs) (is_held n gs) ∙ ap (λ (x : Bool). b || x) (sym (held-append n hs gs)));
}

-- one name: it was listed,
module _ (ns m : List ℕ) (h : ℕ) where
  pub strike_it : slot h < length m → 0 < get_or m (slot h) 0 → get_or ns (get_or m (slot h) 0 - 1) 0 ≡ h → Struck ns (h ∷ []) m (set m (slot h) 0)
  strike_it l z is = record { at = λ j q b e. go j b e (eqb (slot (get_or ns j 0)) (slot h)) refl (eqb h (get_or ns j 0)) refl ∙ ap (λ (x : Bool). left (b || x) (j + 1)) (sym (held_one (get_or ns j 0) h)) }
    where
      go : (j : ℕ) (b : Bool) → get_or m (slot (get_or ns j 0)) 0 ≡ left b (j + 1) → (s : Bool) → eqb (slot (get_or ns j 0)) (slot h) ≡ s → (d : Bool) → eqb h (get_or ns j 0) ≡ d
          → get_or (set m (slot h) 0) (slot (get_or ns j 0)) 0 ≡ left (b || d) (j + 1)
      go j b e true s d t = rw (eqb-true _ _ s) (get_or-set_same m (slot h) 0 0 l) ∙ same b d (rw (eqb-true _ _ s) at e) t
        where
          same : (b d : Bool) → get_or m (slot h) 0 ≡ left b (j + 1) → eqb h (get_or ns j 0) ≡ d → 0 ≡ left (b || d) (j + 1)
          same true d e t = refl
          same false true e t = refl
          same false false e t = let k : get_or m (slot h) 0 - 1 ≡ j = omega arith in absurd (eqb-false h _ t (sym (ap (λ (i : ℕ). get_or ns i 0) (sym k) ∙ is)))
      go j b e false s true t = absurd (eqb-false _ _ s (ap slot (sym (eqb-true h _ t))))
      go j b e false s false t = get_or-set_other m (slot h) _ 0 0 (eqb-false _ _ s) ∙ e ∙ ap (λ (x : Bool). left x (j + 1)) (sym (or-false b))

  -- or it was not
  pub strike_no : ((j : ℕ) → j < length ns → get_or ns j 0 ≡ h → get_or m (slot h) 0 ≡ j + 1 → ⊥) → Struck ns (h ∷ []) m m
  strike_no out = record { at = λ j q b e. go j q b e (eqb h (get_or ns j 0)) refl ∙ ap (λ (x : Bool). left (b || x) (j + 1)) (sym (held_one (get_or ns j 0) h)) }
    where
      go : (j : ℕ) → j < length ns → (b : Bool) → get_or m (slot (get_or ns j 0)) 0 ≡ left b (j + 1) → (d : Bool) → eqb h (get_or ns j 0) ≡ d → get_or m (slot (get_or ns j 0)) 0 ≡ left (b || d) (j + 1)
      go j q true e d t = e
      go j q false e true t = let x = eqb-true h (get_or ns j 0) t in absurd (out j q (sym x) (ap (λ (i : ℕ). get_or m (slot i) 0) x ∙ e))
      go j q false e false t = e

-- a column, one number more
pub strike_start : {ns : List ℕ} (w : List ℕ) (start width : ℕ) (m : List ℕ) → Struck ns (column w start width 0) m m
unfolding column
strike_start w start width m = struck_none

pub strike_more : {ns : List ℕ} (w : List ℕ) (start width i : ℕ) {m₀ m m' : List ℕ} → Struck ns (column w start width i) m₀ m → Struck ns (get_or w (start + width * i) 0 ∷ []) m m' → Struck ns (column w start width (i + 1)) m₀ m'
unfolding column
strike_more w start width i f g = rw add-one (struck_on f g)

-- ---- what was found

module _ {ks ps ns m m' held : List ℕ} (c : Columns ks ps ns) where
  pub found : Listed ks ps ns m → Struck ns held m m' → Found ks ps ns m' held
  found l s = record {
    at = λ i q e.
        let p : slot (get_or ns i 0) ≡ get_or ps i 0 = eqb-true (slot (get_or ns i 0)) (get_or ps i 0) (and_elim_right (is_name (get_or ks i 0)) _ e) in
        let r : get_or m (slot (get_or ns i 0)) 0 ≡ left false (i + 1) = ap (λ (x : ℕ). get_or m x 0) p ∙ l.at i q e in
        let u : get_or m' (get_or ps i 0) 0 ≡ left (is_held (get_or ns i 0) held) (i + 1) = ap (λ (x : ℕ). get_or m' x 0) (sym p) ∙ s.at i (omega (arith, c.numbers)) false r in
        ap (λ (x : ℕ). eqb x 0) u ∙ zero? i (is_held (get_or ns i 0) held);
  }
    where
      zero? : (i : ℕ) (b : Bool) → eqb (left b (i + 1)) 0 ≡ b
      zero? i true = refl
      zero? i false = ne_eqb (i + 1) 0 (λ y. omega arith)
