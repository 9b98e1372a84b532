-- The largest alignment of a row's members, entry by entry. Assumes nothing.
use mathlib.Core.Path.{◌≡◌, refl, sym, ap, ◌∙◌}
use mathlib.Core.Option.{Option, none, some}
use mathlib.Core.List.{List, []}
use Prim.Native.Nat.{ℕ, ◌+◌, ◌-◌, ◌<◌, ◌≤◌, max}
use native.Mathlib.Omega.{arith}
use lib.ListN.{length, get_or, drop}
use Rattle.definition.specs.Table.{Member, carrying}
use Rattle.definition.specs.Align.{larger, largest}
use Rattle.definition_laws.proofs.Carrying.{carry_skip, carry_one, carry_end, carry_none}
use Rattle.table.specs.Held.{no_member}

module _ (a b c : ℕ) where
  max-grouped : max (max a b) c ≡ max a (max b c)
  max-grouped = omega arith

larger-grouped : (a b c : Option ℕ) → larger (larger a b) c ≡ larger a (larger b c)
larger-grouped none b c = refl
larger-grouped (some a) none c = refl
larger-grouped (some a) (some b) none = refl
larger-grouped (some a) (some b) (some c) = ap some (max-grouped a b c)

larger-none : (a : Option ℕ) → larger a none ≡ a
larger-none none = refl
larger-none (some a) = refl

-- the entries that carry a row
abbrev row_of : Member → ℕ
row_of e = e.row

-- the whole is a and what the entries from i on give
pub record Gathers (f : ℕ → Option ℕ) (n : ℕ) (es : List Member) (i left : ℕ) (a whole : Option ℕ) : Type 0 where
  pub same : whole ≡ larger a (largest f (carrying row_of n left (drop i es)))

pub begins : {f : ℕ → Option ℕ} {n : ℕ} {es : List Member} {i left : ℕ} {a : Option ℕ} → a ≡ none → Gathers f n es i left a (largest f (carrying row_of n left (drop i es)))
begins e = record { same = rw e }

module _ {f : ℕ → Option ℕ} {n : ℕ} {es : List Member} {i left : ℕ} {a whole : Option ℕ} (g : Gathers f n es i left a whole) where
  done : carrying row_of n left (drop i es) ≡ [] → a ≡ whole
  unfolding largest
  done e = sym (g.same ∙ (ap (λ l. larger a (largest f l)) e ∙ larger-none a))

  pub gathered : left ≡ 0 → a ≡ whole
  gathered z = done (carry_none row_of (drop i es) n left z)

  pub ended : length es ≤ i → a ≡ whole
  ended p = done (carry_end row_of es n left i p)

  module _ (p : i < length es) where
    pub skips : {k : ℕ} → k ≡ (get_or es i no_member).row → (k ≡ n → ⊥) → Gathers f n es (i + 1) left a whole
    skips h q = record { same = g.same ∙ ap (λ l. larger a (largest f l)) (carry_skip row_of no_member es n left i p (λ e. q (h ∙ e))) }

    pub takes : {k y : ℕ} {b c : Option ℕ} → k ≡ (get_or es i no_member).row → k ≡ n → (left ≡ 0 → ⊥) → y ≡ (get_or es i no_member).type → b ≡ f y → c ≡ larger a b
        → Gathers f n es (i + 1) (left - 1) c whole
    unfolding largest
    takes {b = b} {c} h q z e v u =
        let rest : Option ℕ = largest f (carrying row_of n (left - 1) (drop (i + 1) es)) in
        let x : Option ℕ = f (get_or es i no_member).type in
        record {
          same = g.same ∙ (ap (λ l. larger a (largest f l)) (carry_one row_of no_member es n left i z p (sym h ∙ q))
              ∙ (sym (larger-grouped a x rest) ∙ ap (λ o. larger o rest) (ap (λ o. larger a o) (sym (v ∙ ap f e)) ∙ sym u)));
        }
