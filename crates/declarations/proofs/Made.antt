-- The definition's readers are made of the pieces that the code has functions for; and declarations end. Assumes nothing.
use mathlib.Core.Path.{◌≡◌, refl, sym, ap, ◌∙◌}
use mathlib.Core.Bool.{true, false, ◌||◌}
use mathlib.Core.Logic.{◌⊎◌, inl, inr}
use Rattle.std.proofs.lemmas.Bool.{ne_eqb}
use mathlib.Core.List.{List}
use Prim.Native.Nat.{ℕ, suc, ◌≤◌, ◌<◌}
use native.Mathlib.Omega.{arith}
use lib.Dec.{eqb}
use lib.IntN.{ℤ}
use lib.ListN.{get_or}
use borrow.Author.Tests.{eqb-true}
use Rattle.definition.specs.Answer.{Answer, got, refused, ◌>>=◌}
use Rattle.definition.specs.Refusal.{missing_name}
use Rattle.definition.specs.Kind.{end, semicolon}
use Rattle.definition.specs.Name.{no_name}
use Rattle.definition.specs.Token.{Tokens, kind_at, left}
use Rattle.definition.specs.Model.{Model}
use Rattle.definition.specs.Table.{Storage, State}
use Rattle.definition.specs.Specifiers.{specifiers, base_type}
use Rattle.definition.specs.Declarator.{apply}
use Rattle.definition.specs.Grammar.{stands}
use Rattle.definition.specs.Reader.{inner, initialiser, init_declarator, declaration, separated, lone_declaration, all_declarations, declarations_from, start}
use Rattle.definition_laws.specs.Progress.{MovesPast}
use Rattle.definition_laws.proofs.Progress.{declaration-on}
use Rattle.table.specs.Ends.{Ends}
use Rattle.table.specs.Held.{state, Held}
use Rattle.table.specs.Reply.{Reply, ok, Nothing, Moves, Peek}
use Rattle.table.specs.declared.Cursor.{Cursor}
use Rattle.table.proofs.Branch.{by}
use Rattle.table.proofs.Shown.{went, held_on}
use Rattle.constants.specs.Reading.{tokens}
use Rattle.declaration_entries.specs.Pieces.{added_declaration}
use Rattle.declaration_entries.specs.Tokens.{MovesBy}
use Rattle.parser.proofs.Goes.{moves-on}
use Rattle.definition_laws.proofs.Every.{got!, no!, bool!, test! }
use Rattle.parser.specs.Pieces.{typed_from}
use Rattle.parser.proofs.Made.{joined}
use Rattle.declarations.specs.Pieces.{after_base, alone_from}

-- a declaration's type stands alone, or not: by the token after it
module _ {ks : List ℕ} {i k : ℕ} (p : Peek ks i k) where
  pub ends_type : (k ≡ semicolon) ⊎ ((k ≡ semicolon → ⊥) × (k ≡ end)) → (eqb (get_or ks i 0) semicolon || eqb (get_or ks i 0) end) ≡ true
  ends_type (inl e) = rw (sym p.is, e)
  ends_type (inr e) = rw (sym p.is, e.1)

  pub goes_on : (k ≡ semicolon → ⊥) → (k ≡ end → ⊥) → (eqb (get_or ks i 0) semicolon || eqb (get_or ks i 0) end) ≡ false
  goes_on n q = rw (sym p.is, ne_eqb k semicolon n, ne_eqb k end q)

-- after an initialiser that was passed over
pub initialised : {Q : Answer State → Type 0} (ts : Tokens) (s s' : State) (c : Storage) (w b at : ℕ) → initialiser ts s ≡ s'
    → Ends Q (added_declaration c w b at s') → Ends Q (added_declaration c w b at (initialiser ts s))
initialised ts s s' c w b at e h = by (ap (added_declaration c w b at) e) h

module _ (ts : Tokens) (m : Model) where
  pub declarator-made : (c : Storage) (b : ℕ) (s : State) → init_declarator ts m c b s ≡ (typed_from (inner ts m) b s >>= λ x. elim (eqb x.1 no_name) as (λ z. Answer State) [
    | true ↦ refused missing_name s.at
    | false ↦ added_declaration c x.1 x.0 s.at (initialiser ts x.2)
  ])
  unfolding init_declarator typed_from added_declaration
  declarator-made c b s = joined ((inner ts m).declarator 0 s) (λ d. apply d.0.steps b d.1) (λ d r. (r.0, d.0.name, r.1)) (λ (x : ℕ × ℕ × State). elim (eqb x.1 no_name) as (λ z. Answer State) [
    | true ↦ refused missing_name s.at
    | false ↦ added_declaration c x.1 x.0 s.at (initialiser ts x.2)
  ])

  pub declaration-made : (s : State) → declaration ts m s ≡ (do
    p ← specifiers ts m (inner ts m) s
    b ← base_type m p.0 s.at p.1
    after_base ts m p.0.storage b.0 s.at (suc (left ts s.at)) b.1)
  unfolding declaration after_base
  declaration-made s = refl

  -- the two entries on tokens are those from the new table
  pub alone-made : lone_declaration ts m ≡ alone_from ts m (start ts m)
  unfolding lone_declaration
  alone-made = refl

  pub all_made : all_declarations ts m ≡ declarations_from ts m (suc (left ts 0)) (start ts m)
  unfolding all_declarations
  all_made = refl

  -- from a token that is not the end, what follows a declaration took one
  pub separated-past : (i : ℕ) (s : State) → (kind_at ts i ≡ end → ⊥) → i ≤ s.at → MovesPast i (separated ts m s)
  unfolding separated
  separated-past i s n p = bool! (stands ts semicolon s) (got! (omega arith)) (test! (stands ts end s) (λ e. got! (past (eqb-true _ _ e))) (λ e. no!))
    where
      past : kind_at ts s.at ≡ end → i < s.at
      past e = let q : i ≡ s.at → ⊥ = λ j. n (ap (kind_at ts) j ∙ e) in omega (arith, q)

-- so a round of `declarations` takes one
module _ {c e s : Cursor} {w d w' d' : List ℕ} {v v' : List ℤ} {ks : List ℕ} {r r' : Reply Nothing} {x y : Nothing} {k : ℕ} (ns : List ℕ) (m : Model) where
  pub took : Moves (declaration (tokens ks ns) m) c w d v r w' d' v' → Held c w d v → r ≡ ok e x → MovesBy separated ks e r' → r' ≡ ok s y → Peek ks c.at k → (k ≡ end → ⊥) → c.at < s.at
  took g h q b z p n =
      let a = held_on g h q in
      (separated-past (tokens ks ns) m c.at (state e a.table) (λ u. n (p.is ∙ u)) (moves-on g h q (declaration-on (tokens ks ns) m))).of _ (went ((b.with ns m _ _ _).run a.table a.encodes) z).says

-- a call that is done with what there is
pub then-on : {Q : Answer State → Type 0} (s : State) (k : State → Answer State) → Ends Q (got s >>= k) → Ends Q (k s)
unfolding ◌>>=◌
then-on s k h = h
