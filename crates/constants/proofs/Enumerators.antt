-- The search in the slices of a table finds what the definition finds in its values. Assumes nothing.
use mathlib.Core.Path.{◌≡◌, refl, sym, ap, ◌∙◌, fun_ext}
use mathlib.Core.Bool.{Bool, true, false}
use mathlib.Core.List.{List, [], ◌∷◌, ◌++◌}
use mathlib.Core.Option.{Option, none, some}
use Prim.Native.Nat.{ℕ, zero, suc, ◌+◌, ◌-◌, ◌*◌, ◌≤◌, ◌<◌, min}
use native.Mathlib.Omega.{arith}
use lib.Dec.{eqb}
use borrow.Author.Tests.{ne_eqb}
use lib.IntN.{ℤ}
use lib.ListN.{length, take, get_or}
use lib.Seq.{take-suc, take-length}
use Rattle.definition.specs.Table.{Table, Value}
use Rattle.definition.specs.Enumeration.{value_named}
use Rattle.definition.specs.Token.{Tokens}
use Rattle.definition.specs.Constant.{constant}
use Rattle.definition.specs.Reader.{constant_here}
use Rattle.definition.specs.Lent.{signeds}
use Rattle.definition.specs.Region.{value_columns, values_at, names_at}
use Rattle.table.specs.declared.Cursor.{Cursor}
use Rattle.table.specs.Held.{reading_words, value_slot, no_value, Fits, InWords, Indexed, Encodes, state, moved_to}
use Rattle.table.specs.Reply.{Shows, both, ok, reply}
use Rattle.table.proofs.Branch.{via, halt}
use Rattle.table.proofs.Shown.{got-at, no! }
use Rattle.table.proofs.Regions.{value-word, value_signed}
use Rattle.table.proofs.Index.{rest-get}
use Rattle.std.specs.Prelude.{Result, Ok, Err, IsErrAnd}
use Rattle.definition.specs.Answer.{Answer, got, refused}
use Rattle.encoding.specs.Refusals.{number_of}
use Rattle.encoding.specs.declared.refusals.Refusal.{Refusal}
use Rattle.constants.specs.Lookup.{last_value, bound_in, known_value}

abbrev either : {A : Type 0} → Bool → A → A → A
either {A} b x y = elim b as (λ z. A) [ true ↦ x | false ↦ y ]

-- the last value decides
after : (name : ℕ) (b : Bool) (z : ℤ) (x : Value) (xs : List Value) (o : Option ℤ) → o ≡ either b (some z) (value_named name xs)
    → elim o as (λ u. Option ℤ) [ some y ↦ some y | none ↦ either (eqb x.name name) (some x.value) none ] ≡ either b (some z) (value_named name (x ∷ xs))
unfolding value_named
after name true z x xs o e = rw e
after name false z x xs o e = rw e

named-last : (name : ℕ) (xs : List Value) (e : Value) → value_named name (xs ++ e ∷ []) ≡ either (eqb e.name name) (some e.value) (value_named name xs)
unfolding value_named
named-last name [] e = refl
named-last name (x ∷ xs) e = after name (eqb e.name name) e.value x xs (value_named name (xs ++ e ∷ [])) (named-last name xs e)

alike : {a b : ℕ} {x y : ℤ} {o p : Option ℤ} (n : ℕ) → a ≡ b → x ≡ y → o ≡ p → either (eqb a n) (some x) o ≡ either (eqb b n) (some y) p
alike {x = x} {o = o} n e f g = rw (← e, ← f, ← g)

module _ (t : Table) (f : Fits t) where
  found_so : (rest : List ℕ) (k name : ℕ) → k ≤ length t.values → last_value (reading_words t rest) (signeds t) k name ≡ value_named name (take k t.values)
  unfolding last_value value_named
  found_so rest zero name p = refl
  found_so rest (suc k) name p =
      let m = f.values in
      alike name (value-word t f rest k 1 (values_at + value_columns * k + 1) (omega arith) (omega arith) (omega arith)) (value_signed t f k (omega arith)) (found_so rest k name (omega arith))
      ∙ sym (ap (value_named name) (take-suc t.values k no_value p) ∙ named-last name (take k t.values) (get_or t.values k no_value))

  -- values of other names are passed over
  climb : (name k m : ℕ) → k + m ≤ length t.values → ((i : ℕ) → i < length t.values → k ≤ i → (get_or t.values i no_value).name ≡ name → ⊥)
      → value_named name (take (k + m) t.values) ≡ value_named name (take k t.values)
  climb name k zero p q = let e : k + 0 ≡ k = omega arith in ap (λ (j : ℕ). value_named name (take j t.values)) e
  climb name k (suc m) p q =
      let e : k + suc m ≡ suc (k + m) = omega arith in
      ap (λ (j : ℕ). value_named name (take j t.values)) e
      ∙ (ap (value_named name) (take-suc t.values (k + m) no_value (omega arith))
      ∙ (named-last name (take (k + m) t.values) (get_or t.values (k + m) no_value)
      ∙ (ap (λ (b : Bool). either b (some (get_or t.values (k + m) no_value).value) (value_named name (take (k + m) t.values))) (ne_eqb (get_or t.values (k + m) no_value).name name (q (k + m) (omega arith) (omega arith)))
      ∙ climb name k m (omega arith) q)))

  module _ (rest : List ℕ) (h : InWords t (reading_words t rest)) (same : h.rest ≡ rest) (x : Indexed t.rows t.values rest) (name : ℕ) where
    bound-is : bound_in (reading_words t rest) name ≡ get_or rest (value_slot name) 0
    bound-is = rest-get h (value_slot name) (names_at + value_slot name) refl ∙ ap (λ (l : List ℕ). get_or l (value_slot name) 0) same

    up : (k : ℕ) → k ≤ length t.values → ((i : ℕ) → i < length t.values → k ≤ i → (get_or t.values i no_value).name ≡ name → ⊥)
        → last_value (reading_words t rest) (signeds t) k name ≡ value_named name t.values
    up k p q =
        let e : k + (length t.values - k) ≡ length t.values = omega arith in
        found_so rest k name p ∙ (sym (climb name k (length t.values - k) (omega arith) q)
        ∙ (ap (λ (j : ℕ). value_named name (take j t.values)) e ∙ ap (value_named name) (take-length t.values)))

    found_all : known_value (reading_words t rest) (signeds t) (length t.values) name ≡ value_named name t.values
    unfolding known_value
    found_all = up (min (length t.values) (bound_in (reading_words t rest) name)) (omega arith) (λ i p q s.
        let u = x.values i p in let z = ap (λ (m : ℕ). get_or rest (value_slot m) 0) s in let y = bound-is in omega arith)

-- the enumerators of the table that the slices hold
pub knows : {t : Table} {c : Cursor} {w d : List ℕ} {v : List ℤ} → Encodes t c w d v → known_value w v c.values ≡ λ n. value_named n t.values
knows {t} {c} {w} {d} {v} h =
    let a : known_value w v c.values ≡ known_value (reading_words t h.words.rest) (signeds t) (length t.values)
    = ap (λ (l : List ℕ). known_value l v c.values) h.words.are ∙ (ap (λ (l : List ℤ). known_value (reading_words t h.words.rest) l c.values) h.signeds.are ∙ ap (λ (k : ℕ). known_value (reading_words t h.words.rest) (signeds t) k) h.counts.values) in
    a ∙ fun_ext (λ n. found_all t h.words.fits h.words.rest (record { fits = h.words.fits; rest = h.words.rest; long = h.words.long; are = refl }) refl h.index n)

-- an answer where the cursor stands
module _ (ts : Tokens) {t : Table} {c : Cursor} {w d : List ℕ} {v : List ℤ} (h : Encodes t c w d v) {a : Answer (ℤ × ℕ)} (e : a ≡ constant ts (known_value w v c.values) c.at) where
  says : a ≡ constant ts (λ n. value_named n t.values) c.at
  says = e ∙ ap (λ k. constant ts k c.at) (knows h)

  pub refused-here : (r : Result (Cursor × ℤ) Refusal) (x : Refusal) → a ≡ refused (number_of x.reason) x.at → IsErrAnd r (λ y. y ≡ x) → Shows both (constant_here ts (state c t)) (reply r) w d v
  unfolding constant_here
  refused-here (Ok p) x q f = absurd f
  refused-here (Err y) x q f = rw f (halt _ (sym says ∙ q) (no! h refl))

  pub done-here : {i : ℕ} {z : ℤ} {m : Cursor} → a ≡ got (z, i) → m ≡ moved_to c i → Shows both (constant_here ts (state c t)) (ok m z) w d v
  unfolding constant_here
  done-here q g = via _ (sym says ∙ q) (got-at g h)
