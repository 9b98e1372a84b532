-- A test after another, and what callers use: an entry of a list is a piece of its reading. Assumes nothing.
use mathlib.Core.Path.{◌≡◌, refl}
use mathlib.Core.Bool.{Bool, true, false, ◌&&◌}
use Prim.Native.Nat.{ℕ}
use Rattle.definition.specs.Answer.{Answer, got, refused, ◌>>=◌}
use Rattle.definition.specs.Table.{State, mark_of, push_parameter}
use Rattle.definition.specs.Declarator.{adjusted}
use Rattle.table.specs.Ends.{Ends}
use Rattle.table.proofs.Branch.{by}
use Rattle.parameter_entries.specs.Parameters.{added_parameter}

pub and_on : {a : Bool} (b : Bool) → a ≡ true → (a && b) ≡ b
and_on b e = rw e

pub and_off : {a : Bool} (b : Bool) → a ≡ false → a ≡ (a && b)
and_off b e = rw e

-- a call, a call after it, and the rest
then-both : {A B C : Type 0} (x : Answer A) (f : A → Answer B) (k : B → Answer C) → ◌≡◌ {A = Answer C} (x >>= λ a. f a >>= k) ((x >>= f) >>= k)
unfolding ◌>>=◌
then-both (got a) f k = refl
then-both (refused n p) f k = refl

-- the two calls of `parametersFrom` that make an entry, and what follows them
pub entered : {C : Type 0} {Q : Answer C → Type 0} (first at type name : ℕ) (s : State) (k : ℕ × State → Answer C)
    → Ends Q (added_parameter first at type name s >>= k) → Ends Q (adjusted at type s >>= λ a. push_parameter (record { row = mark_of first; type = a.0; name = name }) a.1 >>= k)
unfolding added_parameter
entered first at type name s k h = by (then-both (adjusted at type s) (λ a. push_parameter (record { row = mark_of first; type = a.0; name = name }) a.1) k) h
