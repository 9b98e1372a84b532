-- Pieces of the definition's readers, where the code has a function for each and the definition has one for all.
use Rattle.std.specs.Prelude.{true, false, ℕ, eqb}
use Rattle.definition.specs.Answer.{Answer, got, ◌>>=◌}
use Rattle.definition.specs.Kind.{open_paren, semicolon}
use Rattle.definition.specs.Token.{Tokens, kind_at}
use Rattle.definition.specs.Model.{Model}
use Rattle.definition.specs.Table.{State, Reads, skip}
use Rattle.definition.specs.Grammar.{DeclaratorStep, array_step, Levels, stands}
use Rattle.definition.specs.Specifiers.{named_type, is_tag_word, tagged_type}
use Rattle.definition.specs.Declarator.{apply, array_bound, parameters}
use Rattle.definition.specs.Composite.{member_declarators, anonymous_member}

-- of `specifiersFrom`: the row of a tag or a type name, read past it
unfoldable pub type_row : Tokens → Model → Levels → Reads ℕ
type_row ts m next s = elim (is_tag_word (kind_at ts s.at)) [
  | true ↦ tagged_type ts m next (kind_at ts s.at) (skip s)
  | false ↦ (do
    b ← named_type ts m s
    got (b.0, skip b.1))
]

-- of `memberDeclaration`: what follows its type; `at` is where it began
unfoldable pub after_type : Tokens → Model → Levels → ℕ → ℕ → ℕ → ℕ → State → Answer State
after_type ts m next first b at f s = elim (stands ts semicolon s) [ true ↦ anonymous_member ts m next first b at (skip s) | false ↦ member_declarators ts m next f first b s ]

abbrev pub declarators_in : Tokens → Model → Levels → ℕ → ℕ → ℕ → State → Answer State
declarators_in ts m next first b f s = member_declarators ts m next f first b s

-- of `suffixesFrom`: the step after a bracket or a parenthesis, which is of kind k
unfoldable pub suffix_step : Tokens → Model → Levels → ℕ → Reads DeclaratorStep
suffix_step ts m next k s = elim (eqb k open_paren) [
  | true ↦ parameters ts m next s
  | false ↦ (do
    b ← array_bound ts m next s
    got (array_step b.0, b.1))
]

-- of `parameter`, `memberDeclarator` and `initDeclarator`: a declarator of a base type
unfoldable pub typed_from : Levels → ℕ → State → Answer (ℕ × ℕ × State)
typed_from next b s = do
  d ← next.declarator 0 s
  r ← apply d.0.steps b d.1
  got (r.0, d.0.name, r.1)
