-- The numbers that a caller is told are those of the definition's answer, and stand in front of the lent slice.
use mathlib.Core.Path.{◌≡◌, refl, sym, ap, ◌∙◌}
use mathlib.Core.List.{List, [], ◌∷◌, ◌++◌}
use Prim.Native.Nat.{ℕ, zero, suc, min}
use native.Mathlib.Omega.{arith}
use lib.ListN.{length, take, drop}
use Rattle.definition.specs.Text.{Bytes}
use Rattle.definition.specs.Entry.{Entry, Outcome, accepted, rejected}
use Rattle.definition.specs.Lent.{Lent, left_in}
use Rattle.entry_points.specs.Answers.{Told, Accepted, Rejected, Out, out, shown, answered}
use Rattle.entry_points.specs.declared.Counts.{Counts}
use Rattle.recordtable_c.specs.Told.{outcome_in, number_of, numbers_of, number_told, numbers_told, over}

-- ---- the front of a slice

pub copied : (xs ys : List ℕ) (k : ℕ) → k ≡ min (length xs) (length ys) → take k xs ++ drop k ys ≡ over xs ys
unfolding over
copied [] ys k e = let z : k ≡ 0 = omega (arith, e) in rw z refl
copied (x ∷ xs) [] k e = let z : k ≡ 0 = omega (arith, e) in rw z refl
copied (x ∷ xs) (y ∷ ys) zero e = absurd (omega (arith, e))
copied (x ∷ xs) (y ∷ ys) (suc k) e = ap (λ zs. x ∷ zs) (copied xs ys k (omega (arith, e)))

-- ---- the code's answer

pub told-accepted : (o : Told) (k : Counts) (ys zs : List ℕ) → o ≡ Accepted k → zs ≡ over (k.rows ∷ k.members ∷ k.values ∷ k.parameters ∷ k.declarations ∷ k.names ∷ []) ys → (0 ≡ number_told o) × (zs ≡ over (numbers_told o) ys)
unfolding number_told numbers_told
told-accepted o k ys zs is written = (sym (ap number_told is), written ∙ sym (ap (λ q. over (numbers_told q) ys) is))

pub told-refused : (o : Told) (n at line column : ℕ) (ys zs : List ℕ) → o ≡ Rejected n at line column → zs ≡ over (at ∷ line ∷ column ∷ 0 ∷ 0 ∷ 0 ∷ []) ys → (n ≡ number_told o) × (zs ≡ over (numbers_told o) ys)
unfolding number_told numbers_told
told-refused o n at line column ys zs is written = (sym (ap number_told is), written ∙ sym (ap (λ q. over (numbers_told q) ys) is))

-- ---- the definition's answer

abbrev answer : Out → Told
answer (out r s) = r

abbrev left : Out → Lent
left (out r s) = s

record Same (l s : Lent) (o : Outcome) (r : Told) : Type 0 where
  number : number_told r ≡ number_of o
  numbers : numbers_told r ≡ numbers_of o
  slices : s ≡ left_in l o

same : (l s : Lent) (o : Outcome) (r : Told) → out r s ≡ shown l o → Same l s o r
unfolding shown number_told numbers_told number_of numbers_of
same l s (accepted a) r is = record { number = ap (λ q. number_told (answer q)) is; numbers = ap (λ q. numbers_told (answer q)) is; slices = ap left is }
same l s (rejected n at line column) r is = record { number = ap (λ q. number_told (answer q)) is; numbers = ap (λ q. numbers_told (answer q)) is; slices = ap left is }

pub exported : (l s : Lent) (model : ℕ) (entry : Entry) (text : Bytes) (r : Told) (k : ℕ) (ys zs : List ℕ) → out r s ≡ answered l model entry text → (k ≡ number_told r) × (zs ≡ over (numbers_told r) ys) → (k ≡ number_of (outcome_in l model entry text)) × ((zs ≡ over (numbers_of (outcome_in l model entry text)) ys) × (s ≡ left_in l (outcome_in l model entry text)))
unfolding answered
exported l s model entry text r k ys zs is (number, numbers) =
    let h = same l s (outcome_in l model entry text) r is in
    (number ∙ h.number, (numbers ∙ ap (λ xs. over xs ys) h.numbers, h.slices))
