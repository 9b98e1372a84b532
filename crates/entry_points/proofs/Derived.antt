-- What a caller derives from the one equation of an entry: demand 1 and 2 number by number, and demand 3. Assumes nothing.
use mathlib.Core.Path.{◌≡◌, refl, sym, ap, ◌∙◌}
use mathlib.Core.Option.{some}
use mathlib.Core.List.{List}
use Prim.Native.Nat.{ℕ}
use native.Mathlib.Omega.{arith}
use lib.IntN.{ℤ}
use Rattle.definition.specs.Text.{Bytes}
use Rattle.definition.specs.Model.{Model, model_of}
use Rattle.definition.specs.Entry as meant
use Rattle.definition.specs.Lent.{Lent, long_enough, left_in}
use Rattle.definition_laws.specs.Left.{AllZero, AsLong, Filled}
use Rattle.definition_laws.proofs.Call.{lengths-kept, accepted-table, rejected-zero}
use Rattle.walks.specs.Walk.{Walks}
use Rattle.walks.specs.Condition.{Meets}
use Rattle.walks.proofs.AcceptedWalks.{walks_stay_inside_and_apart}
use Rattle.clearing.specs.Slices.{lent}
use Rattle.entry_points.specs.Answers.{counts_of, Accepted, Rejected, out, shown, answered}
use Rattle.entry_points.specs.declared.Counts.{Counts}

module _ (l : Lent) (model : ℕ) (entry : meant.Entry) (text : Bytes) (w d : List ℕ) (v : List ℤ) where
  -- what the definition says of this call
  abbrev told : meant.Outcome
  told = meant.outcome model (long_enough l) entry text

  -- an accepted text: its table, with counts that are its lengths
  pub record Accepts (c : Counts) : Type 0 where
    pub all : meant.Accepted
    pub says : told ≡ meant.accepted all
    pub counts : c ≡ counts_of all
    pub left : lent w d v ≡ left_in l told

  pub accepts : (c : Counts) → out (Accepted c) (lent w d v) ≡ answered l model entry text → Accepts c
  unfolding answered shown
  accepts c e = go told refl
    where
      go : (o : meant.Outcome) → told ≡ o → Accepts c
      go (meant.accepted a) q = let z = e ∙ ap (λ (x : meant.Outcome). shown l x) q in let y : lent w d v ≡ left_in l (meant.accepted a) = cc in record { all = a; says = q; counts = cc; left = y ∙ ap (λ (x : meant.Outcome). left_in l x) (sym q) }
      go (meant.rejected n at line column) q = let z = e ∙ ap (λ (x : meant.Outcome). shown l x) q in let y : ◌≡◌ {A = ℕ} 0 1 = cc in absurd (omega arith)

  -- a refused one: the definition's number and place, and zeros
  pub record Rejects (n at line column : ℕ) : Type 0 where
    pub says : told ≡ meant.rejected n at line column
    pub left : lent w d v ≡ left_in l told

  pub rejects : (n at line column : ℕ) → out (Rejected n at line column) (lent w d v) ≡ answered l model entry text → Rejects n at line column
  unfolding answered shown
  rejects n at line column e = go told refl
    where
      go : (o : meant.Outcome) → told ≡ o → Rejects n at line column
      go (meant.accepted a) q = let z = e ∙ ap (λ (x : meant.Outcome). shown l x) q in let y : ◌≡◌ {A = ℕ} 0 1 = cc in absurd (omega arith)
      go (meant.rejected n' at' line' column') q =
          let z = e ∙ ap (λ (x : meant.Outcome). shown l x) q in
          let y : lent w d v ≡ left_in l (meant.rejected n' at' line' column') = cc in
          let s : meant.rejected n' at' line' column' ≡ meant.rejected n at line column = cc in
          record { says = q ∙ s; left = y ∙ ap (λ (x : meant.Outcome). left_in l x) (sym q) }

  -- every number of every slice, and zeros after them
  pub accepted-numbers : (c : Counts) (h : Accepts c) → Filled h.all (lent w d v)
  accepted-numbers c h = rw h.left (accepted-table l model entry text h.all h.says)

  pub rejected-numbers : (n at line column : ℕ) → Rejects n at line column → AllZero (lent w d v)
  rejected-numbers n at line column h = rw h.left (rejected-zero l model entry text n at line column h.says)

  -- no slice changes its length
  pub accepted-lengths : (c : Counts) → Accepts c → AsLong l (lent w d v)
  accepted-lengths c h = rw h.left (lengths-kept l model entry text)

  -- demand 3 of the table that was accepted
  pub accepted-walks : (c : Counts) (h : Accepts c) (m : Model) → model_of model ≡ some m → Meets text h.all.table → Walks m h.all.table
  accepted-walks c h m q k = walks_stay_inside_and_apart model (long_enough l) entry text m h.all h.says q k
