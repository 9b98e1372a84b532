-- Every constant is in the range of values. Assumes nothing.
use mathlib.Core.Path.{◌≡◌}
use mathlib.Core.Bool.{Bool, true, false}
use mathlib.Core.Option.{Option, none, some}
use mathlib.Core.List.{List, [], ◌∷◌}
use Prim.Native.Nat.{ℕ, zero, suc, ◌+◌}
use native.Mathlib.Omega.{arith}
use lib.Dec.{eqb, ltb}
use lib.IntN.{ℤ, pos}
use Rattle.definition.specs.Answer.{Answer}
use Rattle.definition.specs.Kind.{number, is_name, open_paren, question}
use Rattle.definition.specs.Token.{Tokens, kind_at, number_at, left}
use Rattle.definition.specs.Range.{in_range, ranged, exact}
use Rattle.definition.specs.Arithmetic.{is_zero, precedence, no_precedence, is_prefix, chosen}
use Rattle.definition.specs.Constant.{Readers, primary, operand₁, operators_from, chain₁, condition₁, level, depths, constant}
use Rattle.definition.specs.Table.{Value}
use Rattle.definition.specs.Enumeration.{value_named}
use Rattle.definition_laws.specs.Every.{Every}
use Rattle.definition_laws.proofs.Every.{got!, no!, bool!, test!, option!, then!, any! }
use Rattle.definition_laws.proofs.Each.{Each, nil, cons}
use Rattle.listing_length.proofs.Fits.{ValueFits}

abbrev pub Ranged : ℤ → Type 0
Ranged z = in_range z ≡ true

-- a value that is read with the index of what follows it
abbrev pub InRange : Answer (ℤ × ℕ) → Type 0
InRange r = Every (λ (x : ℤ × ℕ). Ranged x.0) r

pub ranged_in : (at : ℕ) (z : ℤ) → Every Ranged (ranged at z)
unfolding ranged
ranged_in at z = test! (in_range z) (λ e. got! e) (λ e. no!)

exact_in : (o : Option ℤ) (at : ℕ) → Every Ranged (exact o at)
unfolding exact
exact_in none at = no!
exact_in (some z) at = ranged_in at z

chosen_in : (c x y : ℤ) → Ranged x → Ranged y → Ranged (chosen c x y)
unfolding chosen
chosen_in c x y p q = go (is_zero c)
  where
    go : (b : Bool) → Ranged (elim b as (λ z. ℤ) [ true ↦ y | false ↦ x ])
    go true = q
    go false = p

pub record KnownIn (known : ℕ → Option ℤ) : Type 0 where
  pub of : (w : ℕ) (v : ℤ) → known w ≡ some v → Ranged v

record ReadersIn (next : Readers) : Type 0 where
  condition : (at : ℕ) → InRange (next.condition at)
  chain : (low at : ℕ) → InRange (next.chain low at)
  operand : (at : ℕ) → InRange (next.operand at)

module _ (ts : Tokens) (known : ℕ → Option ℤ) (h : KnownIn known) where
  module _ (next : Readers) (ok : ReadersIn next) where
    primary_in : (at : ℕ) → InRange (primary ts known next at)
    unfolding primary
    primary_in at = bool! (eqb (kind_at ts at) number) (then! _ _ (ranged_in at (pos (number_at ts at))) λ v k. got! k)
        (bool! (is_name (kind_at ts at)) (option! (known (number_at ts at)) (λ v e. got! (h.of (number_at ts at) v e)) no!) no!)

    operand_in : (at : ℕ) → InRange (operand₁ ts known next at)
    unfolding operand₁
    operand_in at = bool! (is_prefix (kind_at ts at)) (then! _ _ any! λ r j. then! _ _ (ranged_in at _) λ v k. got! k)
        (bool! (eqb (kind_at ts at) open_paren) (then! _ _ (ok.condition (at + 1)) λ r k. then! _ _ any! λ a j. got! k) (primary_in at))

    operators_in : (f low : ℕ) (x : ℤ) (at : ℕ) → Ranged x → InRange (operators_from ts known next f low x at)
    unfolding operators_from
    operators_in zero low x at p = got! p
    operators_in (suc f) low x at p = bool! (ltb low (precedence (kind_at ts at)))
        (then! _ _ any! λ r j. then! _ _ (exact_in _ at) λ v k. operators_in f low v r.1 k) (got! p)

    chain_in : (low at : ℕ) → InRange (chain₁ ts known next low at)
    unfolding chain₁
    chain_in low at = then! _ _ (operand_in at) λ r k. operators_in (suc (left ts r.1)) low r.0 r.1 k

    condition_in : (at : ℕ) → InRange (condition₁ ts known next at)
    unfolding condition₁
    condition_in at = then! _ _ (chain_in no_precedence at) λ c k. bool! (eqb (kind_at ts c.1) question)
        (then! _ _ (ok.condition (c.1 + 1)) λ x p. then! _ _ any! λ a j. then! _ _ (ok.condition a) λ y q. got! (chosen_in c.0 x.0 y.0 p q))
        (got! k)

  level_in : (room : ℕ) → ReadersIn (level ts known room)
  unfolding level
  level_in zero = record { condition = λ at. no!; chain = λ low at. no!; operand = λ at. no! }
  level_in (suc room) = let k = level_in room in record { condition = condition_in _ k; chain = chain_in _ k; operand = operand_in _ k }

  pub constant_in : (at : ℕ) → InRange (constant ts known at)
  unfolding constant
  constant_in at = (level_in depths).condition at

-- the enumerators of a table
pub named_in : {i : ℕ} (vs : List Value) → Each (λ i v. ValueFits v) i vs → KnownIn (λ w. value_named w vs)
unfolding value_named
named_in [] nil = record { of = λ w z e. let y : ◌≡◌ {A = ℕ} 0 1 = cc in absurd (omega arith) }
named_in (v ∷ vs) (cons h hs) = let k = named_in vs hs in record { of = λ w z e. go w z (value_named w vs) (λ z e. k.of w z e) e }
  where
    last : (w : ℕ) (z : ℤ) (b : Bool) → elim b as (λ z. Option ℤ) [ true ↦ some v.value | false ↦ none ] ≡ some z → Ranged z
    last w z true e = let y : v.value ≡ z = cc in rw (← y) h
    last w z false e = let y : ◌≡◌ {A = ℕ} 0 1 = cc in absurd (omega arith)

    go : (w : ℕ) (z : ℤ) (o : Option ℤ) → ((z : ℤ) → o ≡ some z → Ranged z)
        → elim o as (λ z. Option ℤ) [ some z ↦ some z | none ↦ elim (eqb v.name w) as (λ z. Option ℤ) [ true ↦ some v.value | false ↦ none ] ] ≡ some z → Ranged z
    go w z none k e = last w z (eqb v.name w) e
    go w z (some y) k e = k z e
