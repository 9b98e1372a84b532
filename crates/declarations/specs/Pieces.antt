-- Pieces of the definition's readers, where the code has a function for each and the definition has one for all.
use Rattle.std.specs.Prelude.{true, false, ◌||◌, ℕ}
use Rattle.definition.specs.Answer.{Answer, refused, ◌>>=◌}
use Rattle.definition.specs.Refusal.{missing_name}
use Rattle.definition.specs.Kind.{end, semicolon}
use Rattle.definition.specs.Name.{no_name}
use Rattle.definition.specs.Token.{Tokens}
use Rattle.definition.specs.Model.{Model}
use Rattle.definition.specs.Table.{Storage, State}
use Rattle.definition.specs.Grammar.{stands}
use Rattle.definition.specs.Reader.{is_typedef, declare, init_declarators, declaration, optional_semicolon, nothing_more}

-- the declarators of a declaration, f rounds of them
abbrev pub declarators_in : Tokens → Model → Storage → ℕ → ℕ → State → Answer State
declarators_in ts m c b f s = init_declarators ts m f c b s

-- of `declaration`: what follows its type; `at` is where it began, and f are the rounds for its declarators
unfoldable pub after_base : Tokens → Model → Storage → ℕ → ℕ → ℕ → State → Answer State
after_base ts m c b at f s = elim (stands ts semicolon s || stands ts end s) [
  | true ↦ elim (is_typedef c) [
    | true ↦ refused missing_name at
    | false ↦ declare c b no_name s
  ]
  | false ↦ init_declarators ts m f c b s
]

-- `loneDeclaration`, from any state
abbrev pub alone_from : Tokens → Model → State → Answer State
alone_from ts m s = declaration ts m s >>= λ s₁. nothing_more ts m (optional_semicolon ts m s₁)
