-- Entries changed from a number on, one after the other, and counted. Assumes nothing.
use mathlib.Core.Path.{◌≡◌, refl, sym, ap, subst, ◌∙◌}
use mathlib.Core.Bool.{Bool, true, false}
use mathlib.Core.List.{List, [], ◌∷◌}
use Prim.Native.Nat.{ℕ, zero, suc, ◌+◌, ◌-◌, ◌≤◌, ◌<◌}
use native.Mathlib.Omega.{arith}
use native.Mathlib.Numerals.{add-one}
use lib.Dec.{eqb}
use lib.IntN.{ℤ}
use lib.ListN.{length, get_or, set, drop, drop_of_length-le}
use borrow.Author.Tests.{eq-eqb, ne_eqb, eqb-true, eqb-false}
use Rattle.std.specs.List.{filter, range_with_len}
use Rattle.definition.specs.Table.{Table, Member}
use Rattle.definition.specs.Types.{changed_if, changed_from}
use Rattle.definition.specs.Composite.{how_many_carry}
use Rattle.lemmas.proofs.Lists.{drop-next}
use Rattle.table.specs.Held.{no_member, Encodes}
use Rattle.table.specs.Reply.{WordIs}
use Rattle.table.specs.Store.{ChangesWords}
use Rattle.lemmas.proofs.Branch.{yes, nay, eq_yes, eq_no}
use Rattle.table.specs.declared.Cursor.{Cursor}
use Rattle.open_lists.specs.Owning.{Kind, rerowed, released, Tells}

module _ {E : Type 0} (test : E → Bool) (change : E → E) (blank : E) where
  next-hit : (es : List E) (i : ℕ) → i < length es → test (get_or es i blank) ≡ true → changed_from test change i es ≡ changed_from test change (suc i) (set es i (change (get_or es i blank)))
  unfolding changed_from
  next-hit [] i p q = absurd (omega arith)
  next-hit (e ∷ es) zero p q = ap (λ b. changed_if b change e ∷ changed_from test change 0 es) q
  next-hit (e ∷ es) (suc i) p q = ap (λ l. e ∷ l) (next-hit es i (omega arith) q)

  next-miss : (es : List E) (i : ℕ) → i < length es → test (get_or es i blank) ≡ false → changed_from test change i es ≡ changed_from test change (suc i) es
  unfolding changed_from
  next-miss [] i p q = absurd (omega arith)
  next-miss (e ∷ es) zero p q = ap (λ b. changed_if b change e ∷ changed_from test change 0 es) q
  next-miss (e ∷ es) (suc i) p q = ap (λ l. e ∷ l) (next-miss es i (omega arith) q)

  none_left : (es : List E) (i : ℕ) → length es ≤ i → changed_from test change i es ≡ es
  unfolding changed_from
  none_left [] i p = refl
  none_left (e ∷ es) zero p = absurd (omega arith)
  none_left (e ∷ es) (suc i) p = ap (λ l. e ∷ l) (none_left es i (omega arith))

module _ {E : Type 0} (k : Kind E) (old row : ℕ) where
  -- the rest changed in a table with other entries
  after : (i : ℕ) (t : Table) (es : List E) {c : Cursor} {w d : List ℕ} {v : List ℤ} → Encodes (rerowed k (i + 1) old row (k.with t es)) c w d v → Encodes (k.with t (changed_from (λ e. k.carries e old) (λ e. k.with_row e row) (i + 1) es)) c w d v
  after i t es {c} {w} {d} {v} x =
      subst (λ u. Encodes u c w d v) (ap (λ l. k.with (k.with t es) (changed_from (λ e. k.carries e old) (λ e. k.with_row e row) (i + 1) l)) (k.put t es) ∙ k.again t es (changed_from (λ e. k.carries e old) (λ e. k.with_row e row) (i + 1) es)) x

  module _ {c : Cursor} {i : ℕ} where
    module _ {w w' : List ℕ} (more : i < k.count c) where
      -- entry i carries the row, and w₁ is what the words are when it has the other
      pub hit : {w₁ : List ℕ} → Tells (λ t. k.carries (get_or (k.of t) i k.blank) old) w true → ChangesWords (λ t. k.with t (set (k.of t) i (k.with_row (get_or (k.of t) i k.blank) row))) c w w₁
          → ChangesWords (rerowed k (i + 1) old row) c w₁ w' → ChangesWords (rerowed k i old row) c w w'
      hit is f g = record {
        with = λ d v. record {
          run = λ t h.
              let n = k.counts t c h.counts in
              subst (λ l. Encodes (k.with t l) c w' d v) (sym (rw add-one (next-hit (λ e. k.carries e old) (λ e. k.with_row e row) k.blank (k.of t) i (omega arith) (sym (is.of t h.words)))))
              (after i t (set (k.of t) i (k.with_row (get_or (k.of t) i k.blank) row)) ((g.with d v).run _ ((f.with d v).run t h)));
        };
      }

      pub miss : Tells (λ t. k.carries (get_or (k.of t) i k.blank) old) w false → ChangesWords (rerowed k (i + 1) old row) c w w' → ChangesWords (rerowed k i old row) c w w'
      miss is g = record {
        with = λ d v. record {
          run = λ t h.
              let n = k.counts t c h.counts in
              subst (λ l. Encodes (k.with t l) c w' d v) (sym (rw add-one (next-miss (λ e. k.carries e old) (λ e. k.with_row e row) k.blank (k.of t) i (omega arith) (sym (is.of t h.words))))) ((g.with d v).run t h);
        };
      }

    -- no entry is from there on
    pub ends : {w : List ℕ} → k.count c ≤ i → ChangesWords (rerowed k i old row) c w w
    ends {w} p = record {
      with = λ d v. record {
        run = λ t h.
            let n = k.counts t c h.counts in
            subst (λ l. Encodes (k.with t l) c w d v) (sym (none_left (λ e. k.carries e old) (λ e. k.with_row e row) k.blank (k.of t) i (omega arith))) (rw (k.same t) h);
      };
    }

-- entries of a row that has some, and of one that has none
module _ {E : Type 0} (k : Kind E) (n : ℕ) {count : Table → ℕ} {c : Cursor} {w : List ℕ} {r : ℕ} (is : WordIs count w r) where
  pub released-some : {w' : List ℕ} → (r ≡ 0 → ⊥) → ChangesWords (rerowed k 0 n 0) c w w' → ChangesWords (λ t. released k n (count t) t) c w w'
  released-some {w'} p f = record {
    with = λ d v. record {
      run = λ t h. subst (λ l. Encodes (k.with t l) c w' d v) (sym (eq_no (count t) 0 (k.of t) (changed_from (λ e. k.carries e n) (λ e. k.with_row e 0) 0 (k.of t)) (λ e. p (is.of t h.words ∙ e)))) ((f.with d v).run t h);
    };
  }

  pub released-none : r ≡ 0 → ChangesWords (λ t. released k n (count t) t) c w w
  released-none p = record {
    with = λ d v. record {
      run = λ t h. subst (λ l. Encodes (k.with t l) c w d v) (sym (eq_yes (count t) 0 (k.of t) (changed_from (λ e. k.carries e n) (λ e. k.with_row e 0) 0 (k.of t)) (sym (is.of t h.words) ∙ p))) (rw (k.same t) h);
    };
  }

-- the entries that carry a mark, counted from entry i on
module _ (mark : ℕ) (es : List Member) (i : ℕ) where
  count-hit : i < length es → (get_or es i no_member).row ≡ mark → how_many_carry mark (drop i es) ≡ suc (how_many_carry mark (drop (i + 1) es))
  unfolding how_many_carry
  count-hit p q = rw (drop-next es i no_member p) (yes (eqb (get_or es i no_member).row mark) _ _ (eq-eqb _ _ q))

  count-miss : i < length es → ((get_or es i no_member).row ≡ mark → ⊥) → how_many_carry mark (drop i es) ≡ how_many_carry mark (drop (i + 1) es)
  unfolding how_many_carry
  count-miss p q = rw (drop-next es i no_member p) (nay (eqb (get_or es i no_member).row mark) _ _ (ne_eqb _ _ q))

pub count-end : (mark : ℕ) (es : List Member) (i : ℕ) → length es ≤ i → how_many_carry mark (drop i es) ≡ 0
unfolding how_many_carry
count-end mark es i p = rw (drop_of_length-le es p)

pub counted : (mark : ℕ) (es : List Member) (n i : ℕ) → n ≡ length es - i → length (filter (λ k. eqb (get_or es k no_member).row mark) (range_with_len i n)) ≡ how_many_carry mark (drop i es)
counted mark es zero i e = sym (count-end mark es i (omega arith))
counted mark es (suc n) i e = go (counted mark es n (i + 1) (omega arith)) (eqb (get_or es i no_member).row mark) refl
  where
    go : length (filter (λ k. eqb (get_or es k no_member).row mark) (range_with_len (i + 1) n)) ≡ how_many_carry mark (drop (i + 1) es) → (z : Bool) → eqb (get_or es i no_member).row mark ≡ z
        → length (filter (λ k. eqb (get_or es k no_member).row mark) (range_with_len i (suc n))) ≡ how_many_carry mark (drop i es)
    go f true q = rw q (ap suc f ∙ sym (count-hit mark es i (omega arith) (eqb-true _ _ q)))
    go f false q = rw q (f ∙ sym (count-miss mark es i (omega arith) (eqb-false _ _ q)))
