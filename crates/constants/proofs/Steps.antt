-- Steps of the readers: what a call gave, kinds that are not the end's, one level down. Assumes nothing.
use mathlib.Core.Path.{◌≡◌, refl, sym, ap}
use mathlib.Core.Bool.{true, false}
use mathlib.Core.Option as maybe
use Prim.Native.Nat.{ℕ, zero, suc, ◌-◌, ◌<◌}
use native.Mathlib.Omega.{arith}
use lib.IntN.{ℤ}
use Rattle.definition.specs.Answer.{Answer, got, refused}
use Rattle.definition.specs.Refusal.{too_deep}
use Rattle.definition.specs.Kind.{is_name}
use Rattle.definition.specs.Token.{Tokens}
use Rattle.definition.specs.Arithmetic.{is_zero, chosen, is_prefix, precedence, operators, operator_in, prefixes, prefix_in}
use Rattle.definition.specs.Constant.{level, operand₁, chain₁, condition₁}
use Rattle.definition_laws.proofs.ConstantProgress.{level-past}
use Rattle.std.specs.Prelude.{Option, Some, None, Result, Ok, Err, IsErrAnd}
use Rattle.std.specs.Option.{ok_or}
use Rattle.encoding.specs.Refusals.{number_of, answer_by}
use Rattle.encoding.specs.declared.refusals.Refusal.{Refusal}
use Rattle.constants.specs.declared.Place.{Place}
use Rattle.constants.specs.Reading.{with_place}
use Rattle.table.specs.Ends.{Ends}

-- ---- what is answered

pub here : {a : Answer (ℤ × ℕ)} → Ends (λ b. a ≡ b) a
here = record { ends = refl }

pub shown : (r : Result (Place × ℤ) Refusal) (a : Answer (ℤ × ℕ)) → Ends (λ b. answer_by with_place r ≡ b) a → answer_by with_place r ≡ a
shown r a h = h.ends

-- the value or the place by another name
pub done : {y z : ℤ} {i j : ℕ} → z ≡ y → i ≡ j → Ends (λ (b : Answer (ℤ × ℕ)). got (z, i) ≡ b) (got (y, j))
done e f = rw (e, f) here

-- the refusal that a `?` hands on
pub exit : (r : Result (Place × ℤ) Refusal) (e : Refusal) → IsErrAnd r (λ y. y ≡ e) → Ends (λ b. answer_by with_place r ≡ b) (refused (number_of e.reason) e.at)
exit (Ok x) e p = absurd p
exit (Err y) e p = rw p here

-- one that stands for what is missing
pub lacks : {X Y : Type 0} (r : Result X Refusal) (e d : Refusal) (o : Option Y) → IsErrAnd r (λ y. y ≡ e) → Err e ≡ ok_or o d → r ≡ Err d
lacks (Ok x) e d o p q = absurd p
lacks (Err y) e d (Some n) p q = cc
lacks (Err y) e d None p q = cc

-- ---- kinds that are not the end's

pub name-there : {k : ℕ} → is_name k ≡ true → 0 < k
unfolding is_name
name-there {k = zero} e = let o : ◌≡◌ {A = ℕ} 0 1 = cc in omega arith
name-there {k = suc k} e = omega arith

pub prefix-there : {k : ℕ} → is_prefix k ≡ true → 0 < k
unfolding is_prefix prefix_in prefixes
prefix-there {k = zero} e = let o : ◌≡◌ {A = ℕ} 0 1 = cc in omega arith
prefix-there {k = suc k} e = omega arith

pub operator-there : {k low : ℕ} → low < precedence k → 0 < k
unfolding precedence operator_in operators
operator-there {k = zero} h = omega arith
operator-there {k = suc k} h = omega arith

-- ---- the arms of a condition

module _ (x y z : ℤ) where
  pub third : is_zero x ≡ true → chosen x y z ≡ z
  unfolding chosen
  third e = rw (e, chosen)

  pub second : is_zero x ≡ false → chosen x y z ≡ y
  unfolding chosen
  second e = rw (e, chosen)

-- ---- levels

module _ (ts : Tokens) (known : ℕ → maybe.Option ℤ) {room : ℕ} (at : ℕ) where
  pub no_operand : room ≡ 0 → (level ts known room).operand at ≡ refused too_deep at
  unfolding level
  no_operand e = rw e

  pub an_operand : (room ≡ 0 → ⊥) → (level ts known room).operand at ≡ operand₁ ts known (level ts known (room - 1)) at
  unfolding level
  an_operand e = let h : room ≡ suc (room - 1) = omega arith in ap (λ m. (level ts known m).operand at) h

  pub no_chain : (low : ℕ) → room ≡ 0 → (level ts known room).chain low at ≡ refused too_deep at
  unfolding level
  no_chain low e = rw e

  pub a-chain : (low : ℕ) → (room ≡ 0 → ⊥) → (level ts known room).chain low at ≡ chain₁ ts known (level ts known (room - 1)) low at
  unfolding level
  a-chain low e = let h : room ≡ suc (room - 1) = omega arith in ap (λ m. (level ts known m).chain low at) h

  pub no_condition : room ≡ 0 → (level ts known room).condition at ≡ refused too_deep at
  unfolding level
  no_condition e = rw e

  pub a-condition : (room ≡ 0 → ⊥) → (level ts known room).condition at ≡ condition₁ ts known (level ts known (room - 1)) at
  unfolding level
  a-condition e = let h : room ≡ suc (room - 1) = omega arith in ap (λ m. (level ts known m).condition at) h

-- a chain goes past its start
pub past : (ts : Tokens) (known : ℕ → maybe.Option ℤ) (room low i : ℕ) {z : ℤ} {j : ℕ} → got (z, j) ≡ (level ts known room).chain low i → i < j
past ts known room low i e = ((level-past ts known room).chain low i).of _ (sym e)
