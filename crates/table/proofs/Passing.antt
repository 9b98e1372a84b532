-- A mark that stands where the cursor is, and one that is missing. Assumes nothing.
use mathlib.Core.Path.{◌≡◌, refl, sym, ◌∙◌}
use mathlib.Core.List.{List}
use Prim.Native.Nat.{ℕ, ◌+◌}
use Rattle.std.specs.Prelude.{Ok, Err}
use Rattle.definition.specs.Grammar.{needed}
use Rattle.definition.specs.Token.{need}
use Rattle.encoding.specs.declared.refusals.Reason.TheVariants.{MissingMark}
use Rattle.lemmas.proofs.Branch.{eq_yes, eq_no}
use Rattle.table.proofs.Branch.{via, halt}
use Rattle.table.proofs.Shown.{got-at, no! }
use Rattle.table.specs.Held.{moved_to}
use Rattle.table.specs.Marks.{Passes}
use Rattle.table.specs.Reply.{Peek}
use Rattle.table.specs.declared.Cursor.{Cursor}

module _ {ks : List ℕ} {c : Cursor} {k : ℕ} (mark : ℕ) (p : Peek ks c.at k) where
  pub passed : (e : Cursor) → k ≡ mark → e ≡ moved_to c (c.at + 1) → Passes ks mark c (Ok e)
  unfolding needed need
  passed e q m = record { with = λ ns w d v. record { run = λ t h. via _ (eq_yes _ _ _ _ (sym p.is ∙ q)) (got-at m h) } }

  pub missed : (k ≡ mark → ⊥) → Passes ks mark c (Err (record { reason = MissingMark; at = c.at }))
  unfolding needed need
  missed q = record { with = λ ns w d v. record { run = λ t h. halt _ (eq_no _ _ _ _ (λ z. q (p.is ∙ z))) (no! h refl) } }
