-- Two lists of the entries that carry a row, compared. Assumes nothing.
use mathlib.Core.Path.{◌≡◌, refl, sym, ap, ◌∙◌}
use mathlib.Core.Bool.{Bool, true, false, not}
use mathlib.Core.List.{List, [], ◌∷◌}
use Prim.Native.Nat.{ℕ, zero, suc, ◌+◌, ◌-◌, ◌≤◌, ◌<◌}
use native.Mathlib.Omega.{arith}
use lib.ListN.{length, get_or, drop}
use Rattle.std.specs.Prelude.{Option, Some, None}
use Rattle.std.specs.Option.{is_some}
use Rattle.definition.specs.Table.{carrying}
use Rattle.definition.specs.Types.{pairwise}
use Rattle.definition_laws.proofs.Carrying.{carry_skip, carry_take, carry_end}
use Rattle.lemmas.proofs.Branch.{yes, nay}
use Rattle.same_entries.specs.Entries.{Others, Next, Kind, Entry, Pairs}

-- one list
module _ {E : Type 0} (row_of : E → ℕ) (blank : E) (es : List E) where
  -- what is left from the next entry on, if there is one
  abbrev pub rest : ℕ → ℕ → Option ℕ → List E
  rest m k None = []
  rest m k (Some a) = get_or es a blank ∷ carrying row_of m k (drop (a + 1) es)

  module _ {reads : ℕ → ℕ → Type 0} {count : ℕ} (long : count ≡ length es) (told : (i n : ℕ) → reads i n → n ≡ row_of (get_or es i blank)) (m : ℕ) where
    past : (d i k : ℕ) → d ≤ count - i → Others reads m i (i + d) → carrying row_of m k (drop i es) ≡ carrying row_of m k (drop (i + d) es)
    past zero i k h o = ap (λ z. carrying row_of m k (drop z es)) (omega arith)
    past (suc d) i k h o =
        let x = o i (omega arith) (omega arith) in
        carry_skip row_of blank es m k i (omega (arith, long)) (λ q. x.2 (told i x.0 x.1 ∙ q))
        ∙ (past d (i + 1) k (omega arith) (λ y p q. o y (omega arith) (omega arith)) ∙ ap (λ z. carrying row_of m k (drop z es)) (omega arith))

    pub next-is : (k i : ℕ) (r : Option ℕ) → Next reads m i count r → carrying row_of m (suc k) (drop i es) ≡ rest m k r
    next-is k i None o = past (count - i) i (suc k) (omega arith) (λ x p q. o x p (omega arith)) ∙ carry_end row_of es m (suc k) (i + (count - i)) (omega (arith, long))
    next-is k i (Some a) (p, q, r, o) =
        past (a - i) i (suc k) (omega arith) (λ x p q. o x p (omega arith))
        ∙ (ap (λ z. carrying row_of m (suc k) (drop z es)) (omega arith) ∙ carry_take row_of blank es m k a (omega (arith, long)) (sym (told a m r)))

  -- no entry is left of the first list: none may be of the other
  pub ends : (same : E → E → Bool) (n k : ℕ) (b : Option ℕ) (r : Bool) → is_some b ≡ not r → r ≡ pairwise same [] (rest n k b)
  unfolding pairwise
  ends same n k None true e = refl
  ends same n k None false e = e
  ends same n k (Some b) true e = e
  ends same n k (Some b) false e = refl

-- both lists, of which some are still to compare
module _ {reads : ℕ → ℕ → Type 0} {tells : ℕ → ℕ → Bool → Type 0} {count m n i j k : ℕ} (more : 0 < k) where
  -- by the next entry of each
  step : (a b : Option ℕ) → Next reads m i count a → Next reads n j count b → {r : Bool}
      → ((kind : Kind) (row_of : Entry kind → ℕ) (same : Entry kind → Entry kind → Bool) (blank : Entry kind) (es : List (Entry kind)) → count ≡ length es
      → ((i n : ℕ) → reads i n → n ≡ row_of (get_or es i blank)) → ((a b : ℕ) (s : Bool) → tells a b s → s ≡ same (get_or es a blank) (get_or es b blank))
      → r ≡ pairwise same (rest row_of blank es m (k - 1) a) (rest row_of blank es n (k - 1) b)) → Pairs reads tells count m i n j k r
  step a b to-a to-b f = record {
    of = λ kind row_of same blank es long told alike.
        let h : k ≡ suc (k - 1) = omega arith in
        f kind row_of same blank es long told alike
        ∙ sym (ap (λ l. pairwise same l (carrying row_of n k (drop j es))) (ap (λ z. carrying row_of m z (drop i es)) h ∙ next-is row_of blank es long told m (k - 1) i a to-a)
        ∙ ap (pairwise same (rest row_of blank es m (k - 1) a)) (ap (λ z. carrying row_of n z (drop j es)) h ∙ next-is row_of blank es long told n (k - 1) j b to-b));
  }

  pub both_end : Next reads m i count None → (b : Option ℕ) → Next reads n j count b → {r : Bool} → is_some b ≡ not r → Pairs reads tells count m i n j k r
  both_end to-a b to-b {r} e = step None b to-a to-b (λ kind row_of same blank es long told alike. ends row_of blank es same n (k - 1) b r e)

  module _ {x : ℕ} (to-a : Next reads m i count (Some x)) where
    pub second-ends : Next reads n j count None → Pairs reads tells count m i n j k false
    unfolding pairwise
    second-ends to-b = step (Some x) None to-a to-b (λ kind row_of same blank es long told alike. refl)

    module _ {y : ℕ} (to-b : Next reads n j count (Some y)) where
      pub differ : tells x y false → Pairs reads tells count m i n j k false
      unfolding pairwise
      differ t = step (Some x) (Some y) to-a to-b (λ kind row_of same blank es long told alike. sym (nay (same (get_or es x blank) (get_or es y blank)) _ _ (sym (alike x y false t))))

      pub agree : tells x y true → {l : ℕ} {r : Bool} → l ≡ k - 1 → Pairs reads tells count m (x + 1) n (y + 1) l r → Pairs reads tells count m i n j k r
      unfolding pairwise
      agree t e p = step (Some x) (Some y) to-a to-b (λ kind row_of same blank es long told alike.
          p.of kind row_of same blank es long told alike ∙ (ap (λ z. pairwise same (carrying row_of m z (drop (x + 1) es)) (carrying row_of n z (drop (y + 1) es))) e
          ∙ sym (yes (same (get_or es x blank) (get_or es y blank)) _ _ (sym (alike x y true t)))))

-- nothing is left to compare
pub none_left : {reads : ℕ → ℕ → Type 0} {tells : ℕ → ℕ → Bool → Type 0} {count m n i j k : ℕ} → k ≡ 0 → Pairs reads tells count m i n j k true
unfolding pairwise carrying
none_left e = rw e (record { of = λ kind row_of same blank es long told alike. refl })
