-- How a property of every value goes through branches and calls. Assumes nothing.
use mathlib.Core.Path.{◌≡◌, refl}
use mathlib.Core.Bool.{Bool, true, false}
use mathlib.Core.Option.{Option, none, some}
use Prim.Native.Nat.{ℕ}
use native.Mathlib.Omega.{arith}
use Rattle.definition.specs.Answer.{Answer, got, refused, ◌>>=◌}
use Rattle.definition_laws.specs.Every.{Every}

pub got! : {A : Type 0} {P : A → Type 0} {a : A} → P a → Every P (got a)
got! {a} h = record { of = λ b e. let z : a ≡ b = cc in rw (← z) h }

pub no! : {A : Type 0} {P : A → Type 0} {n at : ℕ} → Every P (refused n at)
no! = record { of = λ b e. let z : ◌≡◌ {A = ℕ} 0 1 = cc in absurd (omega arith) }

pub bool! : {B : Type 0} {P : B → Type 0} (b : Bool) {x y : Answer B} → Every P x → Every P y → Every P (elim b as (λ z. Answer B) [ true ↦ x | false ↦ y ])
bool! true h k = h
bool! false h k = k

-- the same, with what the test told
pub test! : {B : Type 0} {P : B → Type 0} (b : Bool) {x y : Answer B} → (b ≡ true → Every P x) → (b ≡ false → Every P y) → Every P (elim b as (λ z. Answer B) [ true ↦ x | false ↦ y ])
test! true h k = h refl
test! false h k = k refl

pub option! : {A B : Type 0} {P : B → Type 0} (o : Option A) {x : Answer B} {f : A → Answer B} → ((a : A) → o ≡ some a → Every P (f a)) → Every P x
    → Every P (elim o as (λ z. Answer B) [ some a ↦ f a | none ↦ x ])
option! none h k = k
option! (some a) h k = h a refl

pub then! : {A B : Type 0} {P : A → Type 0} {Q : B → Type 0} (r : Answer A) (k : A → Answer B) → Every P r → ((a : A) → P a → Every Q (k a)) → Every Q (r >>= k)
unfolding ◌>>=◌
then! (got a) k h f = f a (h.of a refl)
then! (refused n at) k h f = no!

-- a property that follows from another
pub weaker! : {A : Type 0} {P Q : A → Type 0} {r : Answer A} → Every P r → ((a : A) → P a → Q a) → Every Q r
weaker! h f = record { of = λ a e. f a (h.of a e) }

-- nothing is said
pub any! : {A : Type 0} {r : Answer A} → Every (λ (a : A). Unit {0}) r
any! = record { of = λ a e. tt }
