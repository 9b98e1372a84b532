-- Sums over lists, and over the parts of a list that carry a row each. Assumes nothing.
use mathlib.Core.Path.{◌≡◌, refl}
use mathlib.Core.Bool.{Bool, true, false}
use mathlib.Core.List.{List, [], ◌∷◌, ◌++◌}
use Prim.Native.Nat.{ℕ, zero, suc, ◌+◌, ◌*◌, ◌≤◌, ◌<◌}
use native.Mathlib.Omega.{arith}
use native.Mathlib.Nat.{le_refl}
use lib.Dec.{eqb, leb}
use lib.ListN.{length, get_or, set, drop, length-append}
use borrow.Author.Tests.{eqb-true, leb-true, leb-false}
use Rattle.definition.specs.Text.{Bytes}
use Rattle.definition.specs.Table.{carrying}
use Rattle.definition.specs.Types.{changed_if, changed_from}
use Rattle.definition.specs.Lent.{flat}
use Rattle.definition_laws.proofs.Each.{Each, nil, cons, each-drop}
use Rattle.listing_length.specs.Weight.{sum_of}

module _ {E : Type 0} (f : E → ℕ) where
  pub sum-append : (xs ys : List E) → sum_of f (xs ++ ys) ≡ sum_of f xs + sum_of f ys
  unfolding sum_of
  sum-append [] ys = omega arith
  sum-append (x ∷ xs) ys = let h = sum-append xs ys in omega arith

  pub sum-push : (xs : List E) (x : E) → sum_of f (xs ++ x ∷ []) ≡ sum_of f xs + f x
  unfolding sum_of
  sum-push xs x = let h = sum-append xs (x ∷ []) in omega arith

  -- an entry that is replaced adds no more than what it is
  pub sum-set : (xs : List E) (i : ℕ) (x : E) → sum_of f (set xs i x) ≤ sum_of f xs + f x
  unfolding sum_of
  sum-set [] i x = omega arith
  sum-set (y ∷ ys) zero x = omega arith
  sum-set (y ∷ ys) (suc i) x = let h = sum-set ys i x in omega arith

  -- entries that are changed, and not in what is summed
  pub sum_changed : (test : E → Bool) (change : E → E) → ((e : E) → f (change e) ≡ f e) → (n : ℕ) (xs : List E) → sum_of f (changed_from test change n xs) ≡ sum_of f xs
  unfolding sum_of changed_from
  sum_changed test change same zero [] = refl
  sum_changed test change same (suc n) [] = refl
  sum_changed test change same zero (e ∷ es) = let h = sum_changed test change same zero es in let k = one (test e) in omega arith
    where
      one : (b : Bool) → f (changed_if b change e) ≡ f e
      one true = same e
      one false = refl
  sum_changed test change same (suc n) (e ∷ es) = let h = sum_changed test change same n es in omega arith

  -- a number more for each
  pub sum-plus : (k : ℕ) (xs : List E) → sum_of (λ e. k + f e) xs ≡ k * length xs + sum_of f xs
  unfolding sum_of
  sum-plus k [] = omega arith
  sum-plus k (x ∷ xs) = let h = sum-plus k xs in omega arith

-- ---- shares

abbrev pub if_so : Bool → ℕ → ℕ
if_so true n = n
if_so false n = 0

module _ {E : Type 0} (row_of : E → ℕ) (g : E → ℕ) where
  -- of the entries that carry row n
  abbrev pub share : ℕ → List E → ℕ
  share n es = sum_of (λ e. if_so (eqb (row_of e) n) (g e)) es

  -- of those that carry row n or a later one
  abbrev pub since : ℕ → List E → ℕ
  since n es = sum_of (λ e. if_so (leb n (row_of e)) (g e)) es

  one-part : (n r k : ℕ) → if_so (eqb r n) k + if_so (leb (suc n) r) k ≤ if_so (leb n r) k
  one-part n r k = go (eqb r n) (leb (suc n) r) (leb n r) refl refl refl
    where
      go : (a b c : Bool) → eqb r n ≡ a → leb (suc n) r ≡ b → leb n r ≡ c → if_so a k + if_so b k ≤ if_so c k
      go true true c p q s = let x = eqb-true r n p in let y = leb-true (suc n) r q in absurd (omega arith)
      go true false true p q s = omega arith
      go true false false p q s = let x = eqb-true r n p in let y = leb-false n r s in absurd (omega arith)
      go false true true p q s = omega arith
      go false true false p q s = let x = leb-true (suc n) r q in let y = leb-false n r s in absurd (omega arith)
      go false false c p q s = omega arith

  pub parts : (n : ℕ) (es : List E) → share n es + since (suc n) es ≤ since n es
  unfolding sum_of
  parts n [] = le_refl _
  parts n (e ∷ es) = let h = parts n es in let k = one-part n (row_of e) (g e) in omega arith

  pub since-all : (n : ℕ) (es : List E) → since n es ≤ sum_of g es
  unfolding sum_of
  since-all n [] = le_refl _
  since-all n (e ∷ es) = let h = since-all n es in let k = one (leb n (row_of e)) in omega arith
    where
      one : (b : Bool) → if_so b (g e) ≤ g e
      one true = le_refl _
      one false = omega arith

  share-drop : (n k : ℕ) (es : List E) → share n (drop k es) ≤ share n es
  unfolding sum_of
  share-drop n zero es = le_refl _
  share-drop n (suc k) [] = le_refl _
  share-drop n (suc k) (e ∷ es) = let h = share-drop n k es in omega arith

  -- what some entries that carry a row are written as, where each is within its measure
  module _ (f : E → Bytes) (n : ℕ) where
    carried : {i : ℕ} (c : ℕ) (es : List E) → Each (λ i e. row_of e ≡ n → length (f e) ≤ g e) i es → length (flat f (carrying row_of n c es)) ≤ share n es
    unfolding sum_of flat carrying
    carried zero es h = omega arith
    carried (suc c) [] nil = omega arith
    carried (suc c) (e ∷ es) (cons h hs) = go (eqb (row_of e) n) refl (carried c es hs) (carried (suc c) es hs)
      where
        go : (b : Bool) → eqb (row_of e) n ≡ b → length (flat f (carrying row_of n c es)) ≤ share n es → length (flat f (carrying row_of n (suc c) es)) ≤ share n es
            → length (flat f (elim b as (λ z. List E) [ true ↦ e ∷ carrying row_of n c es | false ↦ carrying row_of n (suc c) es ])) ≤ if_so b (g e) + share n es
        go true p k l = let x = h (eqb-true (row_of e) n p) in omega (arith, length-append (f e) (flat f (carrying row_of n c es)))
        go false p k l = omega arith

    pub shared : (first c : ℕ) (es : List E) → Each (λ i e. row_of e ≡ n → length (f e) ≤ g e) 0 es → length (flat f (carrying row_of n c (drop first es))) ≤ share n es
    shared first c es h = let a = carried c (drop first es) (each-drop h first) in let b = share-drop n first es in omega arith

-- a list written one after the other
pub flat-within : {E : Type 0} (f : E → Bytes) (g : E → ℕ) {i : ℕ} (es : List E) → Each (λ i e. length (f e) ≤ g e) i es → length (flat f es) ≤ sum_of g es
unfolding sum_of flat
flat-within f g [] nil = le_refl _
flat-within f g (e ∷ es) (cons h hs) = let k = flat-within f g es hs in omega (arith, length-append (f e) (flat f es))

-- from every entry by its number
pub each_of : {E : Type 0} {P : E → Type 0} (d : E) (n : ℕ) (es : List E) → ((i : ℕ) → i < length es → P (get_or es i d)) → Each (λ i e. P e) n es
each_of d n [] h = nil
each_of d n (e ∷ es) h = cons (h 0 (omega arith)) (each_of d (suc n) es (λ i l. h (suc i) (omega arith)))

-- two properties of every entry
pub both : {E : Type 0} {P Q : ℕ → E → Type 0} {n : ℕ} {es : List E} → Each P n es → Each Q n es → Each (λ i e. P i e × Q i e) n es
both nil nil = nil
both (cons h hs) (cons k ks) = cons (h, k) (both hs ks)
