-- A semicolon that must stand somewhere, and one that may. Assumes nothing.
use mathlib.Core.Path.{◌≡◌, refl, sym, ap, ◌∙◌}
use mathlib.Core.Bool.{Bool, true, false}
use mathlib.Core.List.{List}
use Prim.Native.Nat.{ℕ, ◌+◌}
use lib.Dec.{eqb}
use lib.IntN.{ℤ}
use Rattle.std.specs.Prelude.{Result, Ok, Err}
use Rattle.std.specs.Result.{result_unwrap_or}
use Rattle.definition.specs.Answer.{Answer, got, refused, ◌>>=◌}
use Rattle.definition.specs.Refusal.{missing_mark}
use Rattle.definition.specs.Kind.{end, semicolon}
use Rattle.definition.specs.Token.{Tokens, kind_at, need}
use Rattle.definition.specs.Model.{Model}
use Rattle.definition.specs.Table.{Table, State, skip, moved_to}
use Rattle.definition.specs.Grammar.{needed}
use Rattle.definition.specs.Reader.{separated, optional_semicolon}
use Rattle.encoding.specs.declared.refusals.Refusal.{Refusal}
use Rattle.lemmas.proofs.Branch.{yes, nay}
use Rattle.table.specs.Held.{state, Encodes}
use Rattle.table.specs.Reply.{reply_alone, alone, none, done, Shows}
use Rattle.table.specs.declared.Cursor.{Cursor}
use Rattle.table.proofs.Shown.{got!, went, said}
use Rattle.declaration_entries.specs.Tokens.{to}

module _ (ts : Tokens) (m : Model) (s : State) where
  abbrev stands : Bool
  stands = eqb (kind_at ts s.at) semicolon

  passed : stands ≡ true → needed ts semicolon s ≡ got (skip s)
  unfolding needed need ◌>>=◌
  passed e = ap (λ x. x >>= λ i. got (moved_to s i)) (yes stands (got (s.at + 1)) (refused missing_mark s.at) e)

  missed : stands ≡ false → needed ts semicolon s ≡ refused missing_mark s.at
  unfolding needed need ◌>>=◌
  missed e = ap (λ x. x >>= λ i. got (moved_to s i)) (nay stands (got (s.at + 1)) (refused missing_mark s.at) e)

  separated' : (b : Bool) → stands ≡ b → eqb (kind_at ts s.at) end ≡ false → separated ts m s ≡ needed ts semicolon s
  unfolding separated
  separated' true e f = yes stands _ _ e ∙ sym (passed e)
  separated' false e f = nay stands _ _ e ∙ nay (eqb (kind_at ts s.at) end) _ _ f ∙ sym (missed e)

  -- before the end it must stand
  pub separated-is : eqb (kind_at ts s.at) end ≡ false → separated ts m s ≡ needed ts semicolon s
  separated-is = separated' stands refl

  -- where it stands, it is passed
  stood : (b : Bool) → stands ≡ b → (s' : State) → needed ts semicolon s ≡ got s' → optional_semicolon ts m s ≡ s'
  unfolding optional_semicolon
  stood true e s' q = let g : ◌≡◌ {A = Answer State} (got (skip s)) (got s') = sym (passed e) ∙ q in let h : skip s ≡ s' = cc in yes stands _ _ e ∙ h
  stood false e s' q = let g : ◌≡◌ {A = Answer State} (refused missing_mark s.at) (got s') = sym (missed e) ∙ q in cc

  -- and where it does not, nothing is
  lacked : (b : Bool) → stands ≡ b → (n p : ℕ) → needed ts semicolon s ≡ refused n p → optional_semicolon ts m s ≡ s
  unfolding optional_semicolon
  lacked true e n p q = let g : ◌≡◌ {A = Answer State} (got (skip s)) (refused n p) = sym (passed e) ∙ q in cc
  lacked false e n p q = nay stands _ _ e

-- where it may stand
module _ (ts : Tokens) (m : Model) {c : Cursor} {t : Table} {w d : List ℕ} {v : List ℤ} where
  pub optional-is : (r : Result Cursor Refusal) → Shows alone (needed ts semicolon (state c t)) (reply_alone r) w d v → Encodes t c w d v → Shows alone (got (optional_semicolon ts m (state c t))) (to (result_unwrap_or r c)) w d v
  optional-is (Ok e) a h = let g = went a refl in record { ends = done g.table e none (ap got (stood ts m (state c t) _ refl _ g.says)) refl g.holds }
  optional-is (Err x) a h = rw (lacked ts m (state c t) _ refl _ _ (said a.ends refl)) (got! h)
