-- A bound past the words before it, and a step in the tokens. Assumes nothing.
use mathlib.Core.Path.{◌≡◌, ap}
use mathlib.Core.Bool.{true, false}
use mathlib.Core.Option.{Option, none}
use Prim.Native.Nat.{ℕ, suc}
use Rattle.definition.specs.Answer.{Answer, got, refused, ◌>>=◌}
use Rattle.definition.specs.Refusal.{bad_bound}
use Rattle.definition.specs.Kind.{close_bracket, star}
use Rattle.definition.specs.Token.{Tokens, left}
use Rattle.definition.specs.Model.{Model}
use Rattle.definition.specs.Table.{State, skip}
use Rattle.definition.specs.Grammar.{Levels, stands, needed}
use Rattle.definition.specs.Declarator.{bound_words, constant_bound, array_bound}
use Rattle.table.specs.Ends.{Ends}
use Rattle.table.proofs.Branch.{by}

module _ (ts : Tokens) (m : Model) (next : Levels) where
  -- a bound where the words before it end
  abbrev pub bound_here : State → Answer (Option ℕ × State)
  bound_here s = elim (stands ts close_bracket s) [
    | true ↦ got (none, skip s)
    | false ↦
        elim (stands ts star s) [
          | true ↦ (do
            s' ← needed ts close_bracket (skip s)
            refused bad_bound s.at)
          | false ↦ constant_bound ts m next s
        ]
  ]

  pub past_words : {Q : Answer (Option ℕ × State) → Type 0} (s₀ s : State) → bound_words ts (suc (left ts s₀.at)) s₀ ≡ s → Ends Q (bound_here s) → Ends Q (array_bound ts m next s₀)
  unfolding array_bound
  past_words s₀ s e h = by (ap bound_here e) h
