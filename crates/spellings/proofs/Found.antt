-- Laws of spellings. Assumes nothing.
use mathlib.Core.Path.{◌≡◌, refl, ap, ◌∙◌}
use mathlib.Core.Bool.{Bool, true, false, ◌&&◌, and-eq-true_iff}
use mathlib.Core.List.{[], ◌∷◌}
use Prim.Native.Nat.{ℕ, ◌+◌, ◌-◌, ◌≤◌, ◌<◌}
use native.Mathlib.Omega.{arith}
use lib.Dec.{eqb}
use lib.ListN.{length, take, length-drop}
use lib.Seq.{length-take-le}
use Rattle.std.specs.Str.{bytes_eq}
use Rattle.definition.specs.Text.{Bytes, same}
use Rattle.definition.specs.Scan.{from}
use Rattle.definition.specs.Kind.{is_name}
use Rattle.definition.specs.Name.{name_of, offset_of, length_of}
use Rattle.definition.specs.Limit.{max_text}
use Rattle.definition_laws.proofs.Spellings.{same-equal}
use Rattle.lemmas.proofs.Branch.{eq_yes}
use Rattle.spellings.specs.Names.{spelled_by, is_name_of}

-- the same spelling is an equal list
pub same_refl : (a : Bytes) → same a a ≡ true
unfolding same
same_refl [] = refl
same_refl (x ∷ a) = eq_yes x x (same a a) false refl ∙ same_refl a

-- the comparison of the library is that of the definition
pub same_bytes : (a b : Bytes) → bytes_eq a b ≡ same a b
unfolding same
same_bytes [] [] = refl
same_bytes [] (y ∷ b) = refl
same_bytes (x ∷ a) [] = refl
same_bytes (x ∷ a) (y ∷ b) = by (eqb x y) (same_bytes a b)
  where
    by : (t : Bool) → bytes_eq a b ≡ same a b → (t && bytes_eq a b) ≡ elim t as (λ z. Bool) [ true ↦ same a b | false ↦ false ]
    by true e = e
    by false e = refl

pub part-long : (text : Bytes) (o n : ℕ) → o + n ≤ length text → length (take n (from text o)) ≡ n
part-long text o n h = length-take-le n (from text o) (rw (length-drop o text) (omega arith))

-- a token that is the name of a spelling, and what makes it that
pub name_was : (text w : Bytes) (k n : ℕ) → is_name_of text w k n ≡ true → (is_name k ≡ true) × (w ≡ spelled_by text n)
unfolding is_name_of
name_was text w k n e = let b = (and-eq-true_iff (is_name k) (same w (spelled_by text n))).0 e in (b.0, same-equal w (spelled_by text n) b.1)

pub name-is : (text w : Bytes) (k n : ℕ) → is_name k ≡ true → spelled_by text n ≡ w → is_name_of text w k n ≡ true
unfolding is_name_of
name-is text w k n e q = rw (is_name_of, e, q) (same_refl w)

-- a new name
module _ (text : Bytes) (at end r : ℕ) (on : at < end) (within : end ≤ length text) (short : length text ≤ max_text) (q : r ≡ name_of at (end - at)) where
  pub parts-new : (offset_of r ≡ at) × (length_of r ≡ end - at)
  unfolding name_of offset_of length_of
  parts-new = (omega (arith, q), omega (arith, q))

  pub spelled-new : spelled_by text r ≡ take (end - at) (from text at)
  spelled-new = ap (λ (i : ℕ). take (length_of r) (from text i)) parts-new.0 ∙ ap (λ (i : ℕ). take i (from text at)) parts-new.1
