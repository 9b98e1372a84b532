-- The ends of `memberDeclarator` and of `body`, as the definition has them.
use Rattle.std.specs.Prelude.{Bool, true, false, ◌&&◌, ◌||◌, not, ℕ, eqb, drop}
use Rattle.definition.specs.Answer.{Answer, got, refused, ◌>>=◌}
use Rattle.definition.specs.Refusal.{missing_name}
use Rattle.definition.specs.Name.{no_name}
use Rattle.definition.specs.Token.{Tokens}
use Rattle.definition.specs.Model.{Model}
use Rattle.definition.specs.Table.{State, Reads, mark_of, with_table, with_members, push_member}
use Rattle.definition.specs.Layout.{layout, none_wide}
use Rattle.definition.specs.Grammar.{Levels}
use Rattle.definition.specs.Composite.{Body, laid_body, fields_only, fresh, noted, bit_width}

-- a member with its width; only a bit-field without a declarator is `unnamed`, and any other must have a name
unfoldable pub field : Tokens → Model → Levels → Bool → ℕ → ℕ → ℕ → ℕ → State → Answer State
field ts m next unnamed first type name at s = do
  w ← bit_width ts m next at s
  elim (not unnamed && eqb name no_name) [
    | true ↦ refused missing_name at
    | false ↦ (do
      e ← push_member (fresh first type name w.0 at) w.1
      got e.1)
  ]

-- a body whose members were read, laid out
unfoldable pub closed : Model → Bool → ℕ → ℕ → Reads Body
closed m union first at s = do
  l ← layout m s.table union first at
  got (
    laid_body first l.0 (fields_only first l.1),
    with_table s (with_members (noted (not union || none_wide m s.table (mark_of first) (drop first s.table.members)) s.table) (fields_only first l.1)),
  )
