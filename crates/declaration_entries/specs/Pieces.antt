-- A piece of the definition, where the code has a function for it.
use Rattle.std.specs.Prelude.{ℕ}
use Rattle.definition.specs.Answer.{Answer, ◌>>=◌}
use Rattle.definition.specs.Table.{Storage, State}
use Rattle.definition.specs.Reader.{declared_row, declare}

-- of `initDeclarator`: what a declarator of name w declares of type b
unfoldable pub added_declaration : Storage → ℕ → ℕ → ℕ → State → Answer State
added_declaration c w b at s = do
  n ← declared_row c w b at s
  declare c n.0 w n.1
