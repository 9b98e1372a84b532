-- The test of the conditions on a text's tags decides them.
use mathlib.Core.Path.{◌≡◌, refl, sym, subst}
use mathlib.Core.Bool.{Bool, true, false, not, ◌&&◌, ◌||◌}
use mathlib.Core.List.{List, [], ◌∷◌}
use Prim.Native.Nat.{ℕ, zero, suc, ◌≤◌, ◌<◌}
use native.Mathlib.Omega.{arith}
use native.Mathlib.Decide.{dec_lt, ℕ_discrete}
use lib.Dec.{T, eqb, eqb→eq, eqb_refl}
use lib.ListN.{length, get_or}
use lib.Ieee.Fits.{and_l, and_r, and_i}
use Rattle.definition.specs.Kind.{end, enum_word}
use Rattle.definition.specs.Token.{Tokens, kind_at}
use Rattle.definition.specs.Specifiers.{is_tag_word}
use Rattle.walks.specs.Condition.{tag_at, opens_body, uses_enum, closed_before, Orderly, every_below, same_tag, how_many, bodied_once, used_after_bodies, is_orderly}

every-at : (n : ℕ) (test : ℕ → Bool) → T (every_below n test) → (i : ℕ) → i < n → T (test i)
unfolding every_below
every-at zero test h i l = absurd (omega arith)
every-at (suc n) test h i l = go (ℕ_discrete i n) (λ k. every-at n test (and_r (test n) (every_below n test) h) i k)
  where
    go : Dec (i ≡ n) → (i < n → T (test i)) → T (test i)
    go (yes e) f = subst (λ k. T (test k)) (sym e) (and_l (test n) (every_below n test) h)
    go (no e) f = f (omega arith)

every-all : (n : ℕ) (test : ℕ → Bool) → ((i : ℕ) → i < n → T (test i)) → T (every_below n test)
unfolding every_below
every-all zero test h = tt
every-all (suc n) test h = and_i (test n) (every_below n test) (h n (omega arith)) (every-all n test (λ i l. h i (omega arith)))

past_end : (l : List ℕ) (i : ℕ) → length l ≤ i → get_or l i end ≡ end
past_end [] i h = refl
past_end (x ∷ l) zero h = absurd (omega arith)
past_end (x ∷ l) (suc i) h = past_end l i (omega arith)

module _ (ts : Tokens) where
  -- what stands at an index is a token
  below : (test : ℕ → Bool) → test end ≡ false → (i : ℕ) → T (test (kind_at ts i)) → i < how_many ts
  below test e i h = go (dec_lt i (how_many ts))
    where
      go : Dec (i < how_many ts) → i < how_many ts
      go (yes l) = l
      go (no l) = absurd (subst T e (subst (λ k. T (test k)) (past_end ts.kinds i (omega arith)) h))

  body_below : (i : ℕ) → T (opens_body ts i) → i < how_many ts
  unfolding opens_body is_tag_word
  body_below i h = below is_tag_word refl i (and_l (is_tag_word (kind_at ts i)) _ h)

  use_below : (i : ℕ) → T (uses_enum ts i) → i < how_many ts
  unfolding uses_enum
  use_below i h = below (λ k. eqb k enum_word) refl i (and_l (eqb (kind_at ts i) enum_word) _ h)

  both_not : {X : Type 0} (a b c : Bool) → T a → T b → T c → T (not (a && (b && c))) → X
  both_not true true true h k l n = absurd n
  both_not true true false h k l n = absurd l
  both_not true false c h k l n = absurd k
  both_not false b c h k l n = absurd h

  both_or : (a b c d : Bool) → T a → T b → T c → T (not (a && (b && c)) || d) → T d
  both_or true true true d h k l n = n
  both_or true true false d h k l n = absurd l
  both_or true false c d h k l n = absurd k
  both_or false b c d h k l n = absurd h

  tags-same : (i j : ℕ) → tag_at ts i ≡ tag_at ts j → T (same_tag ts i j)
  tags-same i j e = subst (λ x. T (eqb (tag_at ts i) x)) e (eqb_refl (tag_at ts i))

  -- what the two tests ask of two indices
  abbrev first : ℕ → ℕ → Bool
  first i j = not (opens_body ts i && (opens_body ts j && same_tag ts i j))

  abbrev second : ℕ → ℕ → Bool
  second i j = not (uses_enum ts i && (opens_body ts j && same_tag ts i j)) || closed_before ts j i

  pub decided : T (is_orderly ts) → Orderly ts
  unfolding is_orderly
  decided h = record {
    one_body = λ i j a b e. one i j a b e (dec_lt j i) (dec_lt i j);
    body_first = λ i j a b e.
        both_or (uses_enum ts i) (opens_body ts j) (same_tag ts i j) (closed_before ts j i) a b (tags-same i j e)
        (every-at (how_many ts) (λ k. second i k) (every-at (how_many ts) (λ k. every_below (how_many ts) (λ l. second k l)) (and_r (bodied_once ts) (used_after_bodies ts) h) i (use_below i a)) j (body_below j b));
  }
    where
      never : {X : Type 0} (i j : ℕ) → j < i → T (opens_body ts i) → T (opens_body ts j) → tag_at ts i ≡ tag_at ts j → X
      never i j l a b e = both_not (opens_body ts i) (opens_body ts j) (same_tag ts i j) a b (tags-same i j e)
          (every-at i (λ k. first i k) (every-at (how_many ts) (λ k. every_below k (λ x. first k x)) (and_l (bodied_once ts) (used_after_bodies ts) h) i (body_below i a)) j l)

      one : (i j : ℕ) → T (opens_body ts i) → T (opens_body ts j) → tag_at ts i ≡ tag_at ts j → Dec (j < i) → Dec (i < j) → i ≡ j
      one i j a b e (yes l) y = never i j l a b e
      one i j a b e (no l) (yes k) = never j i k b a (sym e)
      one i j a b e (no l) (no k) = omega arith

  not_all : (a b c : Bool) → (T a → T b → T c → ⊥) → T (not (a && (b && c)))
  not_all true true true f = f tt tt tt
  not_all true true false f = tt
  not_all true false c f = tt
  not_all false b c f = tt

  all_or : (a b c d : Bool) → (T a → T b → T c → T d) → T (not (a && (b && c)) || d)
  all_or true true true d f = f tt tt tt
  all_or true true false d f = tt
  all_or true false c d f = tt
  all_or false b c d f = tt

  pub tested : Orderly ts → T (is_orderly ts)
  unfolding is_orderly
  tested c = and_i (bodied_once ts) (used_after_bodies ts)
      (every-all (how_many ts) (λ i. every_below i (λ j. first i j)) (λ i l. every-all i (λ j. first i j) (λ j k.
      not_all (opens_body ts i) (opens_body ts j) (same_tag ts i j) (λ a b e. (let q = c.one_body i j a b (eqb→eq (tag_at ts i) (tag_at ts j) e) in omega arith)))))
      (every-all (how_many ts) (λ i. every_below (how_many ts) (λ j. second i j)) (λ i l. every-all (how_many ts) (λ j. second i j) (λ j k.
      all_or (uses_enum ts i) (opens_body ts j) (same_tag ts i j) (closed_before ts j i) (λ a b e. c.body_first i j a b (eqb→eq (tag_at ts i) (tag_at ts j) e)))))
