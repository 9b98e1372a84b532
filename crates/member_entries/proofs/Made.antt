-- `memberDeclarator` and `body` are made of their ends. Assumes nothing.
use mathlib.Core.Path.{◌≡◌, refl}
use mathlib.Core.Bool.{Bool, true, false}
use Prim.Native.Nat.{ℕ, suc}
use lib.ListN.{length}
use Rattle.definition.specs.Answer.{Answer, ◌>>=◌}
use Rattle.definition.specs.Kind.{colon}
use Rattle.definition.specs.Name.{no_name}
use Rattle.definition.specs.Token.{Tokens, left}
use Rattle.definition.specs.Model.{Model}
use Rattle.definition.specs.Table.{State}
use Rattle.definition.specs.Grammar.{Levels, stands}
use Rattle.definition.specs.Declarator.{apply}
use Rattle.definition.specs.Composite.{member_declarator, members_from, body}
use Rattle.member_entries.specs.Pieces.{field, closed}

module _ (ts : Tokens) (m : Model) (next : Levels) where
  pub declarator-made : (first b : ℕ) (s : State) → member_declarator ts m next first b s ≡ elim (stands ts colon s) as (λ x. Answer State) [
    | true ↦ field ts m next true first b no_name s.at s
    | false ↦ (do
      d ← next.declarator 0 s
      r ← apply d.0.steps b d.1
      field ts m next false first r.0 d.0.name s.at r.1)
  ]
  unfolding member_declarator field
  declarator-made first b s = refl

  pub body-made : (union : Bool) (at : ℕ) (s : State) → body ts m next union at s ≡ (do
    s₁ ← members_from ts m next (suc (left ts s.at)) (length s.table.members) s
    closed m union (length s.table.members) at s₁)
  unfolding body closed
  body-made union at s = refl
