-- The lines of the entries that carry a row. Assumes nothing.
use Rattle.std.proofs.Common.{◌≡◌, refl, sym, ap, ◌∙◌, List, [], ◌∷◌, ◌++◌, Bool, true, false, ℕ, zero, suc, ◌+◌, ◌-◌, ◌<◌, ◌≤◌, eqb, length, get_or, drop, arith, eq-eqb, ne_eqb}
use Rattle.std.specs.Borrow.{MutBor}
use Rattle.std.specs.List.{range_with_len}
use lib.ListN.{drop_of_length-le}
use Rattle.definition.specs.Text.{Bytes}
use Rattle.definition.specs.Table.{carrying}
use Rattle.definition.specs.Lent.{flat}
use Rattle.lemmas.proofs.Branch.{yes, nay}
use Rattle.lemmas.proofs.Lists.{drop-next}
use Rattle.printing.specs.declared.Writer.{Writer}
use Rattle.printing.specs.Written.{Keeps, Writes}
use Rattle.printing.proofs.Writing.{keeps_still, keeps_both}
use Rattle.listing.specs.Listed.{carried, WritesEntries}
use Rattle.listing.proofs.Under.{Going, starts, done, passes, goes_on}

module _ (rows : ℕ → ℕ) (lines : ℕ → Bytes) (n : ℕ) where
  -- none is wanted, or none is left
  pub none_wanted : (left i end : ℕ) → left ≡ 0 → carried rows lines n left i end ≡ []
  unfolding flat carrying
  none_wanted left i end z = rw z

  none_of : (left : ℕ) → flat lines (carrying rows n left []) ≡ []
  unfolding flat carrying
  none_of zero = refl
  none_of (suc k) = refl

  pub at-end : (left i end : ℕ) → end ≤ i → carried rows lines n left i end ≡ []
  at-end left i end h = let e : end - i ≡ 0 = omega arith in rw e (none_of left)

  -- the first of a range
  next : (i end : ℕ) → i < end → range_with_len i (end - i) ≡ i ∷ range_with_len (i + 1) (end - (i + 1))
  next i end h = let e : end - i ≡ suc (end - (i + 1)) = omega arith in rw e

  pub passed : (left i end : ℕ) → i < end → (rows i ≡ n → ⊥) → carried rows lines n left i end ≡ carried rows lines n left (i + 1) end
  unfolding flat carrying
  passed zero i end h q = refl
  passed (suc k) i end h q = rw (next i end h) (ap (λ l. flat lines l) (nay (eqb (rows i) n) _ _ (ne_eqb _ _ q)))

  pub taken : (left i end : ℕ) → i < end → (left ≡ 0 → ⊥) → rows i ≡ n → carried rows lines n left i end ≡ lines i ++ carried rows lines n (left - 1) (i + 1) end
  unfolding flat carrying
  taken zero i end h z q = absurd (z refl)
  taken (suc k) i end h z q =
      let e : suc k - 1 ≡ k = omega arith in
      rw (next i end h, e) (ap (λ l. flat lines l) (yes (eqb (rows i) n) _ _ (eq-eqb _ _ q)))

-- the entries of a list
module _ {E : Type 0} (row : E → ℕ) (f : E → Bytes) (n : ℕ) (es : List E) (z : E) where
  of_entries : (k count i : ℕ) → length es - i ≡ k
      → flat f (carrying row n count (drop i es)) ≡ flat (λ j. f (get_or es j z)) (carrying (λ j. row (get_or es j z)) n count (range_with_len i k))
  unfolding flat carrying
  of_entries k zero i h = refl
  of_entries zero (suc c) i h = let p : length es ≤ i = omega arith in rw (drop_of_length-le es p)
  of_entries (suc k) (suc c) i h =
      rw (drop-next es i z (omega arith)) (by (eqb (row (get_or es i z)) n) (of_entries k c (i + 1) (omega arith)) (of_entries k (suc c) (i + 1) (omega arith)))
    where
      by : (b : Bool)
          → flat f (carrying row n c (drop (i + 1) es)) ≡ flat (λ j. f (get_or es j z)) (carrying (λ j. row (get_or es j z)) n c (range_with_len (i + 1) k))
          → flat f (carrying row n (suc c) (drop (i + 1) es)) ≡ flat (λ j. f (get_or es j z)) (carrying (λ j. row (get_or es j z)) n (suc c) (range_with_len (i + 1) k))
          → flat f (elim b [ true ↦ get_or es i z ∷ carrying row n c (drop (i + 1) es) | false ↦ carrying row n (suc c) (drop (i + 1) es) ])
          ≡ flat (λ j. f (get_or es j z)) (elim b [ true ↦ i ∷ carrying (λ j. row (get_or es j z)) n c (range_with_len (i + 1) k) | false ↦ carrying (λ j. row (get_or es j z)) n (suc c) (range_with_len (i + 1) k) ])
      by true p q = ap (λ l. f (get_or es i z) ++ l) p
      by false p q = q

  pub entries-listed : {count count' first first' end : ℕ} → count' ≡ count → first' ≡ first → end ≡ length es
      → carried (λ j. row (get_or es j z)) (λ j. f (get_or es j z)) n count' first' end ≡ flat f (carrying row n count (drop first es))
  entries-listed {count} {first = first} p q e = rw (p, q, e) (sym (of_entries (length es - first) count first refl))

-- the loop over them
pub record Under (row_of : ℕ → ℕ → Type 0) (line : MutBor Writer → ℕ → MutBor Writer → Type 0) (n count first end : ℕ) (o : Writer) (left i : ℕ) (p : Writer) : Type 0 where
  pub kept : ((j : ℕ) (q r : MutBor Writer) → line q j r → Keeps q.now r.now) → Keeps o p
  pub of : (rows : ℕ → ℕ) (lines : ℕ → Bytes) → ((j k : ℕ) → row_of j k → k ≡ rows j) → ((j : ℕ) (q r : MutBor Writer) → line q j r → Writes (lines j) q.now r.now)
      → Going (carried rows lines n count first end) o (carried rows lines n left i end) p

module _ {row_of : ℕ → ℕ → Type 0} {line : MutBor Writer → ℕ → MutBor Writer → Type 0} {n count first end : ℕ} {o : Writer} where
  pub begins : Under row_of line n count first end o count first o
  begins = record { kept = λ h. keeps_still; of = λ rows lines p q. starts }

  module _ {left i : ℕ} {p : Writer} (g : Under row_of line n count first end o left i p) where
    pub enough : left ≡ 0 → WritesEntries row_of line n count first end o p
    enough z = record { kept = g.kept; of = λ rows lines u v. done (g.of rows lines u v) (none_wanted rows lines n left i end z) }

    pub ended : end ≤ i → WritesEntries row_of line n count first end o p
    ended h = record { kept = g.kept; of = λ rows lines u v. done (g.of rows lines u v) (at-end rows lines n left i end h) }

    pub skipped : {k : ℕ} → i < end → row_of i k → (k ≡ n → ⊥) → Under row_of line n count first end o left (i + 1) p
    skipped h r ne = record { kept = g.kept; of = λ rows lines u v. passes (g.of rows lines u v) (passed rows lines n left i end h (λ e. ne (u i _ r ∙ e))) }

    pub listed : {k : ℕ} (q r : MutBor Writer) → i < end → (left ≡ 0 → ⊥) → row_of i k → k ≡ n → line q i r → q.now ≡ p → Under row_of line n count first end o (left - 1) (i + 1) r.now
    listed q r h z w e l a = record {
      kept = λ k. keeps_both (g.kept k) (rw a at (k i q r l));
      of = λ rows lines u v. goes_on (g.of rows lines u v) (taken rows lines n left i end h z (sym (u i _ w) ∙ e)) (rw a at (v i q r l));
    }
