-- One round of each loop of the definition, and its end. Each starts with one round more than tokens are left, or two. Assumes nothing.
use mathlib.Core.Path.{◌≡◌, refl, sym, ap, ◌∙◌}
use mathlib.Core.List.{List}
use mathlib.Core.Bool.{Bool, true, false, or-false}
use Prim.Native.Nat.{ℕ, zero, suc, ◌+◌, ◌-◌, ◌≤◌, ◌<◌}
use native.Mathlib.Omega.{arith}
use lib.Dec.{eqb}
use lib.IntN.{ℤ, pos, negsuc, suc_ℤ, pred_ℤ, ◌+ℤ◌}
use lib.Signed.{◌≤ℤ◌}
use Rattle.std.proofs.lemmas.Int.{ints}
use lib.ListN.{length, get_or, get_or-eq_default, take, drop}
use Rattle.std.proofs.lemmas.List.{get_or-map, get_or-drop, length-drop, length-map}
use Rattle.std.proofs.lemmas.List.Sums.{prefix_len-drop_yes, prefix_len-drop_no, prefix_len-drop_all}
use Rattle.std.proofs.lemmas.List.Folds.{length-prefix_len}
use Rattle.std.specs.List.{prefix_len}
use borrow.Author.Tests.{eqb-true, eq-eqb, ne_eqb}
use Rattle.definition.specs.Kind.{end, atomic_word, equals}
use Rattle.definition.specs.Row.{Qualifiers}
use Rattle.definition.specs.Table.{Table}
use Rattle.definition.specs.Specifier.{is_qualifier_word, with_qualifier}
use Rattle.definition.specs.Declarator.{qualifiers_from, bound_words}
use Rattle.definition.specs.Reader.{nested, skip_initialiser, initialiser}
use Rattle.encoding.specs.Kinds.{kind_number, kind_numbers}
use Rattle.encoding.specs.declared.token_kinds.TokenKind.{TokenKind}
use Rattle.encoding.specs.declared.token_kinds.TokenKind.TheVariants.{End}
use Rattle.lemmas.proofs.Truth.{neither-first, neither-second}
use Rattle.lemmas.proofs.Branch as branch
use Rattle.skipping.specs.Passing.{tokens, standing, qualifies, precedes_bound, ends_initialiser}

-- ---- qualifiers

-- `_Atomic` is none
atomic_none : (q : Qualifiers) → with_qualifier atomic_word q ≡ q
unfolding with_qualifier
atomic_none q = rw (or-false q.const, or-false q.volatile, or-false q.restrict)

module _ (ks ns : List ℕ) (t : Table) (i : ℕ) where
  abbrev kind : ℕ
  kind = get_or ks i end

  pub kind-end : length ks ≤ i → kind ≡ end
  kind-end h = get_or-eq_default ks end h

  qualifiers-none : (f : ℕ) (q : Qualifiers) → qualifies kind ≡ false → qualifiers_from (tokens ks ns) (suc f) q (standing i t) ≡ (q, standing i t)
  unfolding qualifiers_from
  qualifiers-none f q e = branch.nay (is_qualifier_word kind) _ _ (neither-first (is_qualifier_word kind) _ e) ∙ branch.nay (eqb kind atomic_word) _ _ (neither-second (is_qualifier_word kind) _ e)

  pub qualifiers-stop : (f : ℕ) (q : Qualifiers) {k : ℕ} → kind ≡ k → qualifies k ≡ false → qualifiers_from (tokens ks ns) (suc f) q (standing i t) ≡ (q, standing i t)
  qualifiers-stop f q p e = qualifiers-none f q (ap qualifies p ∙ e)

  pub qualifiers-end : (f : ℕ) (q : Qualifiers) → length ks ≤ i → qualifiers_from (tokens ks ns) (suc f) q (standing i t) ≡ (q, standing i t)
  unfolding is_qualifier_word
  qualifiers-end f q h = qualifiers-none f q (rw (kind-end h))

  qualifiers-one : (f : ℕ) (q : Qualifiers) (b : Bool) → is_qualifier_word kind ≡ b → qualifies kind ≡ true
      → qualifiers_from (tokens ks ns) (suc f) q (standing i t) ≡ qualifiers_from (tokens ks ns) f (with_qualifier kind q) (standing (i + 1) t)
  unfolding qualifiers_from
  qualifiers-one f q true w e = branch.yes (is_qualifier_word kind) _ _ w
  qualifiers-one f q false w e =
      let a : eqb kind atomic_word ≡ true = rw w at e in
      branch.nay (is_qualifier_word kind) _ _ w ∙ branch.yes (eqb kind atomic_word) _ _ a
      ∙ ap (λ x. qualifiers_from (tokens ks ns) f x (standing (i + 1) t)) (sym (rw (eqb-true kind atomic_word a) (atomic_none q)))

  pub qualifiers-on : (q : Qualifiers) {k j : ℕ} → i < length ks → kind ≡ k → i + 1 ≡ j → qualifies k ≡ true
      → qualifiers_from (tokens ks ns) (suc (length ks - i)) q (standing i t) ≡ qualifiers_from (tokens ks ns) (suc (length ks - j)) (with_qualifier k q) (standing j t)
  qualifiers-on q {k} {j} h p n e =
      let f : length ks - i ≡ suc (length ks - j) = omega (arith, n) in
      qualifiers-one (length ks - i) q (is_qualifier_word kind) refl (ap qualifies p ∙ e)
      ∙ ap (λ m. qualifiers_from (tokens ks ns) m (with_qualifier kind q) (standing (i + 1) t)) f
      ∙ ap (λ z. qualifiers_from (tokens ks ns) (suc (length ks - j)) (with_qualifier z q) (standing (i + 1) t)) p
      ∙ ap (λ z. qualifiers_from (tokens ks ns) (suc (length ks - j)) (with_qualifier k q) (standing z t)) n

  -- ---- words before a bound

  pub bound-stop : (f : ℕ) → precedes_bound kind ≡ false → bound_words (tokens ks ns) (suc f) (standing i t) ≡ standing i t
  unfolding bound_words
  bound-stop f e = branch.nay (precedes_bound kind) _ _ e

  pub bound-end : (f : ℕ) → length ks ≤ i → bound_words (tokens ks ns) (suc f) (standing i t) ≡ standing i t
  unfolding is_qualifier_word
  bound-end f h = bound-stop f (rw (kind-end h))

  pub bound-on : (f : ℕ) → precedes_bound kind ≡ true → bound_words (tokens ks ns) (suc f) (standing i t) ≡ bound_words (tokens ks ns) f (standing (i + 1) t)
  unfolding bound_words
  bound-on f e = branch.yes (precedes_bound kind) _ _ e

-- the kinds of the code, from an index on
module _ (ks : List TokenKind) (a : ℕ) {rest : List TokenKind} (e : rest ≡ drop a ks) where
  pub all-from : length rest ≡ length (kind_numbers ks) - a
  all-from = omega (arith, ap length e, length-drop a ks, length-map ks kind_number)

  pub kind-from : (i : ℕ) (d : TokenKind) → i < length rest → get_or (kind_numbers ks) (a + i) end ≡ kind_number (get_or rest i d)
  kind-from i d h =
      let n : a + i < length ks = omega (arith, all-from, length-map ks kind_number) in
      get_or-map kind_number ks (a + i) d end n ∙ ap kind_number (sym (get_or-drop a ks i d) ∙ ap (λ l. get_or l i d) (sym e))

  -- the kind of a token that was read
  pub kind-read : (i : ℕ) {k : TokenKind} → k ≡ get_or rest i k → i < length rest → get_or (kind_numbers ks) (a + i) end ≡ kind_number k
  kind-read i {k} is h = kind-from i k h ∙ ap kind_number (sym is)

-- all words before a bound
abbrev pub precedes : TokenKind → Bool
precedes k = precedes_bound (kind_number k)

module _ (ks : List TokenKind) (ns : List ℕ) (t : Table) where
  bound-step : (n i : ℕ) (b : Bool) → suc n ≡ length ks - i → precedes_bound (get_or (kind_numbers ks) i end) ≡ b
      → bound_words (tokens (kind_numbers ks) ns) (suc n) (standing (i + 1) t) ≡ standing (i + 1 + prefix_len precedes (drop (i + 1) ks)) t
      → bound_words (tokens (kind_numbers ks) ns) (suc (suc n)) (standing i t) ≡ standing (i + prefix_len precedes (drop i ks)) t
  bound-step n i true e p h =
      let k = get_or-map kind_number ks i End end (omega (arith, e)) in
      let m = prefix_len-drop_yes precedes ks i End (omega (arith, e)) (ap precedes_bound (sym k) ∙ p) in
      let o : i + 1 + prefix_len precedes (drop (i + 1) ks) ≡ i + prefix_len precedes (drop i ks) = omega (arith, m) in
      bound-on (kind_numbers ks) ns t i (suc n) p ∙ h ∙ ap (λ z. standing z t) o
  bound-step n i false e p h =
      let k = get_or-map kind_number ks i End end (omega (arith, e)) in
      let m = prefix_len-drop_no precedes ks i End (omega (arith, e)) (ap precedes_bound (sym k) ∙ p) in
      let o : i ≡ i + prefix_len precedes (drop i ks) = omega (arith, m) in
      bound-stop (kind_numbers ks) ns t i (suc n) p ∙ ap (λ z. standing z t) o

  bounds : (n i : ℕ) → n ≡ length ks - i → bound_words (tokens (kind_numbers ks) ns) (suc n) (standing i t) ≡ standing (i + prefix_len precedes (drop i ks)) t
  bounds zero i e =
      let m = prefix_len-drop_all precedes ks i (omega (arith, e)) in
      let o : i ≡ i + prefix_len precedes (drop i ks) = omega (arith, m) in
      bound-end (kind_numbers ks) ns t i zero (omega (arith, e, length-map ks kind_number)) ∙ ap (λ z. standing z t) o
  bounds (suc n) i e = bound-step n i _ e refl (bounds n (i + 1) (omega (arith, e)))

  -- as the code counts them
  pub bounds-are : {n : ℕ} (i : ℕ) → n ≡ length (take (prefix_len precedes (drop i ks)) (drop i ks)) → bound_words (tokens (kind_numbers ks) ns) (suc (length (kind_numbers ks) - i)) (standing i t) ≡ standing (i + n) t
  bounds-are {n} i e =
      let f : length ks - i ≡ length (kind_numbers ks) - i = omega (arith, length-map ks kind_number) in
      let o : i + prefix_len precedes (drop i ks) ≡ i + n = omega (arith, e, length-prefix_len precedes (drop i ks)) in
      ap (λ m. bound_words (tokens (kind_numbers ks) ns) (suc m) (standing i t)) (sym f) ∙ bounds _ i refl ∙ ap (λ z. standing z t) o

-- ---- the depth of an initialiser: what a token makes of it

suc-add : (d : ℤ) → suc_ℤ d ≡ d +ℤ pos 1
suc-add (pos n) = omega (arith, ints)
suc-add (negsuc zero) = refl
suc-add (negsuc (suc n)) = omega (arith, ints)

pred-add : (d : ℤ) → pred_ℤ d ≡ d +ℤ negsuc 0
pred-add (pos zero) = refl
pred-add (pos (suc n)) = omega (arith, ints)
pred-add (negsuc n) = omega (arith, ints)

deepened : (a b : Bool) (d : ℤ) → ◌≡◌ {A = ℤ} (elim a as (λ z. ℤ) [ true ↦ suc_ℤ d | false ↦ elim b as (λ z. ℤ) [ true ↦ pred_ℤ d | false ↦ d ] ])
    (d +ℤ elim a as (λ z. ℤ) [ true ↦ suc_ℤ (pos 0) | false ↦ elim b as (λ z. ℤ) [ true ↦ pred_ℤ (pos 0) | false ↦ pos 0 ] ])
deepened true b d = suc-add d
deepened false true d = pred-add d
deepened false false d = omega (arith, ints)

pub nested-deeper : (k : ℕ) (d : ℤ) → nested k d ≡ d +ℤ nested k (pos 0)
unfolding nested
nested-deeper k d = deepened _ _ d

small : (a b : Bool) → let z : ℤ = elim a as (λ z. ℤ) [ true ↦ suc_ℤ (pos 0) | false ↦ elim b as (λ z. ℤ) [ true ↦ pred_ℤ (pos 0) | false ↦ pos 0 ] ] in
    (negsuc 0 ≤ℤ z) × (z ≤ℤ pos 1)
small true b = (omega (arith, ints), omega (arith, ints))
small false true = (omega (arith, ints), omega (arith, ints))
small false false = (omega (arith, ints), omega (arith, ints))

pub deeper-small : (k : ℕ) → (negsuc 0 ≤ℤ nested k (pos 0)) × (nested k (pos 0) ≤ℤ pos 1)
unfolding nested
deeper-small k = small _ _

-- ---- initialisers

module _ (ks ns : List ℕ) (t : Table) (i : ℕ) where
  abbrev here : ℕ
  here = get_or ks i end

  pub none-stands : {k : ℕ} → k ≡ here → (k ≡ equals → ⊥) → initialiser (tokens ks ns) (standing i t) ≡ standing i t
  unfolding initialiser
  none-stands p h = branch.nay (eqb here equals) _ _ (ne_eqb here equals (λ e. h (p ∙ e)))

  pub one-stands : {k j : ℕ} → i < length ks → k ≡ here → k ≡ equals → i + 1 ≡ j → initialiser (tokens ks ns) (standing i t) ≡ skip_initialiser (tokens ks ns) (suc (suc (length ks - j))) (pos 0) (standing j t)
  unfolding initialiser
  one-stands {j = j} h p e n =
      let f : length ks - i ≡ suc (length ks - j) = omega (arith, n) in
      branch.yes (eqb here equals) _ _ (eq-eqb here equals (sym p ∙ e))
      ∙ ap (λ m. skip_initialiser (tokens ks ns) (suc m) (pos 0) (standing (i + 1) t)) f
      ∙ ap (λ z. skip_initialiser (tokens ks ns) (suc (suc (length ks - j))) (pos 0) (standing z t)) n

  ends-here : (f : ℕ) (d : ℤ) → ends_initialiser here d ≡ true → skip_initialiser (tokens ks ns) (suc f) d (standing i t) ≡ standing i t
  unfolding skip_initialiser
  ends-here f d e = branch.yes (ends_initialiser here d) _ _ e

  pub initialiser-stop : (f : ℕ) (d : ℤ) {k : ℕ} → here ≡ k → ends_initialiser k d ≡ true → skip_initialiser (tokens ks ns) (suc f) d (standing i t) ≡ standing i t
  initialiser-stop f d p e = ends-here f d (ap (λ z. ends_initialiser z d) p ∙ e)

  pub initialiser-end : (f : ℕ) (d : ℤ) → length ks ≤ i → skip_initialiser (tokens ks ns) (suc f) d (standing i t) ≡ standing i t
  initialiser-end f d h = ends-here f d (rw (kind-end ks ns t i h))

  goes-on : (f : ℕ) (d : ℤ) → ends_initialiser here d ≡ false → skip_initialiser (tokens ks ns) (suc f) d (standing i t) ≡ skip_initialiser (tokens ks ns) f (nested here d) (standing (i + 1) t)
  unfolding skip_initialiser
  goes-on f d e = branch.nay (ends_initialiser here d) _ _ e

  pub initialiser-on : (d : ℤ) {k j : ℕ} {z : ℤ} → i < length ks → here ≡ k → i + 1 ≡ j → d +ℤ nested k (pos 0) ≡ z → ends_initialiser k d ≡ false
      → skip_initialiser (tokens ks ns) (suc (suc (length ks - i))) d (standing i t) ≡ skip_initialiser (tokens ks ns) (suc (suc (length ks - j))) z (standing j t)
  initialiser-on d {k} {j} {z} h p n q e =
      let f : length ks - i ≡ suc (length ks - j) = omega (arith, n) in
      goes-on (suc (length ks - i)) d (ap (λ x. ends_initialiser x d) p ∙ e)
      ∙ ap (λ m. skip_initialiser (tokens ks ns) (suc m) (nested here d) (standing (i + 1) t)) f
      ∙ ap (λ x. skip_initialiser (tokens ks ns) (suc (suc (length ks - j))) x (standing (i + 1) t)) (ap (λ x. nested x d) p ∙ nested-deeper k d ∙ q)
      ∙ ap (λ x. skip_initialiser (tokens ks ns) (suc (suc (length ks - j))) z (standing x t)) n
