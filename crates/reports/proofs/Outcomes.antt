-- From the equation of an entry to what is printed. Assumes nothing.
use mathlib.Core.Path.{◌≡◌, sym, ap, ◌∙◌}
use Rattle.std.specs.Prelude.{Option, Some, None, unwrap_or}
use mathlib.Core.List.{List}
use Prim.Native.Nat.{ℕ}
use lib.IntN.{ℤ}
use Rattle.definition.specs.Text.{Bytes}
use Rattle.definition.specs.Model.{Model as MeantModel, lp64, model_of}
use Rattle.definition.specs.Entry as meant
use Rattle.definition.specs.Lent.{Lent, long_enough, left_in}
use Rattle.definition.specs.Listing.{refused_line, or_lp64, printed_outcome}
use Rattle.definition_laws.proofs.Call.{outcome-acceptable}
use Rattle.model.specs.Meaning.{model, model_found}
use Rattle.model.specs.declared.Model.{Model}
use Rattle.clearing.specs.Slices.{lent}
use Rattle.printing.specs.declared.Writer.{Writer}
use Rattle.printing.specs.Written.{Writes}
use Rattle.entry_points.specs.Answers.{out, shown, answered, Told, Accepted, Rejected}
use Rattle.entry_points.specs.declared.Counts.{Counts}
use Rattle.entry_points.proofs.Derived.{Accepts, accepts, rejects}
use Rattle.reports.specs.Printed.{Table, Lists, Answered, Prints}

-- ---- the model of a number

pub model_same : (n : ℕ) (f : Option Model) (l : Model) → model_found f ≡ model_of n → model l ≡ lp64 → model (unwrap_or f l) ≡ or_lp64 (model_of n)
model_same n (Some m) l e q = ap or_lp64 e
model_same n None l e q = q ∙ ap or_lp64 e

-- ---- what is printed

module _ (number : ℕ) (text : Bytes) (w d : List ℕ) (v : List ℤ) where
  table-left : (c : Counts) (l : Lent) (entry : meant.Entry) → Accepts l number entry text w d v c → Table c w d v
  table-left c l entry g = record {
    of = l;
    all = g.all;
    acceptable = outcome-acceptable number (long_enough l) entry text g.all g.says;
    counts = g.counts;
    left = g.left ∙ ap (λ (o : meant.Outcome). left_in l o) g.says;
  }

  -- an accepted text left a table
  pub table_of : (c : Counts) (r : Told) → r ≡ Accepted c → Answered number text r w d v → Table c w d v
  table_of c r q x = table-left c x.of x.entry (accepts x.of number x.entry text w d v c (rw (sym q) x.is))

  module _ {o o' : Writer} where
    pub accepted-printed : (c : Counts) (r : Told) (m : MeantModel) → r ≡ Accepted c → m ≡ or_lp64 (model_of number) → Lists text m c w d v o o' → Prints number text r w d v o o'
    unfolding printed_outcome table-left
    accepted-printed c r m q e f = record {
      same = f.same;
      of = λ l entry z.
          let g = accepts l number entry text w d v c (rw (sym q) z) in
          rw (g.says, sym e) (f.of (table-left c l entry g));
    }

    pub rejected-printed : (k at line column : ℕ) (r : Told) → r ≡ Rejected k at line column → Writes (refused_line k at line column) o o' → Prints number text r w d v o o'
    unfolding printed_outcome
    rejected-printed k at line column r q f = record {
      same = f.same;
      of = λ l entry z.
          let g = rejects l number entry text w d v k at line column (rw (sym q) z) in
          rw g.says f;
    }

-- ---- what a call leaves

pub left_as : (l : Lent) (model : ℕ) (entry : meant.Entry) (text : Bytes) (r : Told) (w d : List ℕ) (v : List ℤ) → out r (lent w d v) ≡ answered l model entry text
    → lent w d v ≡ left_in l (meant.outcome model (long_enough l) entry text)
unfolding answered shown
left_as l model entry text r w d v e = go (meant.outcome model (long_enough l) entry text) e
  where
    go : (o : meant.Outcome) → out r (lent w d v) ≡ shown l o → lent w d v ≡ left_in l o
    go (meant.accepted a) q = cc
    go (meant.rejected n at line column) q = cc
