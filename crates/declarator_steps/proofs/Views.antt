-- How the views change with the entries. Assumes nothing.
use mathlib.Core.Path.{◌≡◌, refl, sym, ap, ◌∙◌}
use mathlib.Core.List.{List, [], ◌∷◌}
use Prim.Native.Nat.{ℕ, zero, suc, ◌+◌, ◌-◌, ◌*◌, ◌^◌, ◌≤◌, ◌<◌}
use native.Mathlib.Omega.{arith}
use native.Mathlib.Numerals.{add-one}
use lib.ListN.{length, get_or, set, take, length-set, length-drop}
use native.Mathlib.Nat.{mul_comm}
use lib.Arith.{digits_div, digits_mod}
use lib.Seq.{get_or-set_same, get_or-set_other, length-take-le}
use Rattle.definition.specs.Limit.{max_steps}
use Rattle.definition.specs.Row.{Qualifiers, qualifier_bits}
use Rattle.definition.specs.Grammar.{DeclaratorStep, pointer_step}
use Rattle.definition.specs.Declarator.{starred}
use Rattle.words.specs.Meaning.{qualifiers_in}
use Rattle.words.proofs.Uses.{bits-qualifiers}
use Rattle.declarator_steps.specs.Pending.{pointer_kind, span_of, step_from, steps_from, stars_from, Pending, pending, none_pending, no_steps, with_step, with_star, released}
use Rattle.declarator_steps.specs.declared.Steps.{Steps}

-- ---- lengths

pub length-steps : (ks os : List ℕ) (n : ℕ) → length (steps_from ks os n) ≡ n
unfolding steps_from
length-steps ks os zero = refl
length-steps ks os (suc n) = ap suc (length-steps ks os n)

pub length-stars : (os : List ℕ) (n : ℕ) → length (stars_from os n) ≡ n
unfolding stars_from
length-stars os zero = refl
length-stars os (suc n) = ap suc (length-stars os n)

length-starred : (qs : List Qualifiers) (xs : List DeclaratorStep) → length (starred qs xs) ≡ length qs + length xs
unfolding starred
length-starred [] xs = omega arith
length-starred (q ∷ qs) xs = let e = length-starred qs (pointer_step q ∷ xs) in omega arith

-- ---- one step more

pub steps_more : (ks os : List ℕ) (n : ℕ) → steps_from ks os (n + 1) ≡ step_from (get_or ks n 0) (get_or os n 0) ∷ steps_from ks os n
unfolding steps_from
steps_more ks os n = rw (add-one n, steps_from)

-- steps see the entries below their number
steps-same : (ks ks' os os' : List ℕ) (n : ℕ) → ((j : ℕ) → j < n → get_or ks j 0 ≡ get_or ks' j 0) → ((j : ℕ) → j < n → get_or os j 0 ≡ get_or os' j 0) → steps_from ks os n ≡ steps_from ks' os' n
unfolding steps_from
steps-same ks ks' os os' zero a b = refl
steps-same ks ks' os os' (suc n) a b = rw (a n (omega arith), b n (omega arith), steps-same ks ks' os os' n (λ j h. a j (omega arith)) (λ j h. b j (omega arith)))

-- and stars those from its complement on
stars-same : (os os' : List ℕ) (n : ℕ) → n ≤ max_steps → ((j : ℕ) → max_steps ≤ j + n → get_or os j 0 ≡ get_or os' j 0) → stars_from os n ≡ stars_from os' n
unfolding stars_from
stars-same os os' zero h a = refl
stars-same os os' (suc n) h a = rw (a (max_steps - suc n) (omega arith), stars-same os os' n (omega arith) (λ j k. a j (omega arith)))

other : (l : List ℕ) (i j x : ℕ) → (j ≡ i → ⊥) → get_or l j 0 ≡ get_or (set l i x) j 0
other l i j x h = sym (get_or-set_other l i j x 0 h)

module _ (ks os : List ℕ) (i k x : ℕ) where
  -- a store at i or above leaves n steps, for n up to i
  pub steps-stay : (n : ℕ) → n ≤ i → steps_from (set ks i k) (set os i x) n ≡ steps_from ks os n
  steps-stay n h = sym (steps-same ks (set ks i k) os (set os i x) n (λ j q. other ks i j k (λ e. omega arith)) (λ j q. other os i j x (λ e. omega arith)))

  pub steps_stay_held : (n : ℕ) → n ≤ i → steps_from ks (set os i x) n ≡ steps_from ks os n
  steps_stay_held n h = sym (steps-same ks ks os (set os i x) n (λ j q. refl) (λ j q. other os i j x (λ e. omega arith)))

  -- a store below the stars leaves them
  pub stars-stay : (n : ℕ) → i + n < max_steps → stars_from (set os i x) n ≡ stars_from os n
  stars-stay n h = sym (stars-same os (set os i x) n (omega arith) (λ j q. other os i j x (λ e. omega arith)))

  -- a step stored after n others
  pub stored : (n : ℕ) → i ≡ n → n < length ks → n < length os → steps_from (set ks i k) (set os i x) (n + 1) ≡ step_from k x ∷ steps_from ks os n
  stored n e p q = steps_more (set ks i k) (set os i x) n ∙ rw (e) (rw (get_or-set_same ks n k 0 p, get_or-set_same os n x 0 q) (ap (λ l. step_from k x ∷ l) (rw (e) at (steps-stay n (omega arith)))))

  -- a star stored before n others
  pub star-stored : (n : ℕ) → i ≡ max_steps - 1 - n → n < max_steps → length os ≡ max_steps → stars_from (set os i x) (n + 1) ≡ qualifiers_in x ∷ stars_from os n
  unfolding stars_from
  star-stored n e p q =
      let f : max_steps - suc n ≡ i = omega arith in
      rw (add-one n, stars_from, f, get_or-set_same os i x 0 (omega arith)) (ap (λ l. qualifiers_in x ∷ l) (stars-stay n (omega arith)))

-- ---- parameters as numbers

pub span_is : (first count : ℕ) → count < 2 ^ 32 → span_of (2 ^ 32 * first + count) ≡ record { first = first; count = count }
unfolding span_of
span_is first count h = rw (mul_comm (2 ^ 32) first, digits_div first {m = 2 ^ 32} h, digits_mod first {m = 2 ^ 32} h)

-- ---- for callers

pub none-pending : {s : Steps} → s ≡ no_steps → pending s ≡ none_pending
unfolding steps_from stars_from
none-pending e = ap pending e

-- ---- both at once

pub pending-is : {a b : List DeclaratorStep} {c d : List Qualifiers} → a ≡ b → c ≡ d → ◌≡◌ {A = Pending} (record { steps = a; stars = c }) (record { steps = b; stars = d })
pending-is e f = rw (e, f)

-- ---- stars that become steps

-- the newest star becomes the next step
abbrev pub one_released : Steps → Steps
one_released t = record {
  kinds = set t.kinds t.len pointer_kind;
  operands = set t.operands t.len (get_or t.operands (max_steps - t.held) 0);
  len = t.len + 1;
  held = t.held - 1;
}

one_more : (ks os : List ℕ) (len held k : ℕ) → 0 < held → len + held ≤ max_steps → length ks ≡ max_steps → length os ≡ max_steps
    → released (suc k) (pending (record { kinds = ks; operands = os; len = len; held = held })) ≡ released k (pending (one_released (record { kinds = ks; operands = os; len = len; held = held })))
unfolding stars_from step_from starred
one_more ks os len zero k p a m n = absurd (omega arith)
one_more ks os len (suc h) k p a m n =
    let x = get_or os (max_steps - suc h) 0 in
    let e : suc h - 1 ≡ h = omega arith in
    rw (e, stored ks os len pointer_kind x len refl (omega arith) (omega arith), stars-stay ks os len pointer_kind x h (omega arith))

-- after i of n stars, from s on
pub record Releasing (n : ℕ) (s t : Steps) (i : ℕ) : Type 0 where
  pub sofar : i ≤ n
  pub stars : n ≤ t.held + i
  pub apart : t.len + t.held ≤ max_steps
  pub kinds-long : length t.kinds ≡ max_steps
  pub operands_long : length t.operands ≡ max_steps
  pub same : released n (pending s) ≡ released (n - i) (pending t)

pub releases : (n i : ℕ) (s t : Steps) → Releasing n s t i → i < n → Releasing n s (one_released t) (i + 1)
releases n i s t r h =
    let a = r.stars in let b = r.apart in let k = r.kinds-long in let o = r.operands_long in
    let e : n - i ≡ suc (n - (i + 1)) = omega arith in
    record {
      sofar = omega arith;
      stars = omega arith;
      apart = omega arith;
      kinds-long = length-set t.kinds t.len pointer_kind ∙ k;
      operands_long = length-set t.operands t.len (get_or t.operands (max_steps - t.held) 0) ∙ o;
      same = r.same ∙ ap (λ m. released m (pending t)) e ∙ one_more t.kinds t.operands t.len t.held (n - (i + 1)) (omega arith) b k o;
    }

pub all-released : (n i : ℕ) (s t : Steps) → Releasing n s t i → n ≤ i → pending t ≡ released n (pending s)
unfolding starred
all-released n i s t r h = let e : n - i ≡ 0 = omega arith in sym (r.same ∙ ap (λ m. released m (pending t)) e)

-- ---- qualifiers as bits

pub bits_back : (q : Qualifiers) → qualifiers_in (qualifier_bits q) ≡ q
bits_back q = bits-qualifiers q

-- ---- for callers: the counts, from what is pending

pub len_is : (s : Steps) {p : Pending} → pending s ≡ p → s.len ≡ length p.steps
len_is s e = sym (length-steps s.kinds s.operands s.len) ∙ ap (λ p. length p.steps) e

pub held-is : (s : Steps) {p : Pending} → pending s ≡ p → s.held ≡ length p.stars
held-is s e = sym (length-stars s.operands s.held) ∙ ap (λ p. length p.stars) e

module _ (r s : Steps) where
  pub push-counts : {x : DeclaratorStep} → pending r ≡ with_step (pending s) x → (r.len ≡ s.len + 1) × (r.held ≡ s.held)
  push-counts e = (omega (arith, len_is r e, length-steps s.kinds s.operands s.len), held-is r e ∙ length-stars s.operands s.held)

  pub hold_counts : {q : Qualifiers} → pending r ≡ with_star (pending s) q → (r.len ≡ s.len) × (r.held ≡ s.held + 1)
  hold_counts e = (len_is r e ∙ length-steps s.kinds s.operands s.len, omega (arith, held-is r e, length-stars s.operands s.held))

  pub release_counts : (n : ℕ) → n ≤ s.held → pending r ≡ released n (pending s) → (r.len ≡ s.len + n) × (r.held + n ≡ s.held)
  release_counts n h e =
      let k = length-stars s.operands s.held in (
        omega (arith, len_is r e, length-starred (take n (stars_from s.operands s.held)) (steps_from s.kinds s.operands s.len), length-take-le n (stars_from s.operands s.held) (omega arith), length-steps s.kinds s.operands s.len),
        omega (arith, held-is r e, length-drop n (stars_from s.operands s.held)),
      )
