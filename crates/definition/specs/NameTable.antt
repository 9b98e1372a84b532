-- The names of a table: "each spelling that an entry holds once, at its first place as a word token, sorted by offset".
use Rattle.std.specs.Prelude.{List, [], ◌∷◌, ◌++◌, map, Bool, true, false, ◌&&◌, ℕ, eqb}
use Rattle.definition.specs.Kind.{is_name}
use Rattle.definition.specs.Name.{offset_of}
use Rattle.definition.specs.Token.{Lexed}
use Rattle.definition.specs.Row.{row_name}
use Rattle.definition.specs.Table.{Table}

-- every name that an entry holds, of rows, members, values, parameters and declarations, and 0 for those without one
unfoldable pub held_names : Table → List ℕ
held_names t = map row_name t.rows ++ map (λ e. e.name) t.members ++ map (λ e. e.name) t.values
    ++ map (λ e. e.name) t.parameters ++ map (λ d. d.name) t.declarations

unfoldable pub is_held : ℕ → List ℕ → Bool
is_held w [] = false
is_held w (n ∷ ns) = elim (eqb n w) [ true ↦ true | false ↦ is_held w ns ]

-- of the tokens in their order, the names that stand at their first place and are held
unfoldable pub names_among : List ℕ → List ℕ → List ℕ → List ℕ → List ℕ
names_among held (k ∷ ks) (p ∷ ps) (n ∷ ns) = elim (is_name k && eqb (offset_of n) p) [
  | true ↦ elim (is_held n held) [ true ↦ n ∷ names_among held ks ps ns | false ↦ names_among held ks ps ns ]
  | false ↦ names_among held ks ps ns
]
names_among held (k ∷ ks) (p ∷ ps) [] = []
names_among held (k ∷ ks) [] ns = []
names_among held [] ps ns = []

unfoldable pub name_table : Lexed → Table → List ℕ
name_table x t = names_among (held_names t) x.tokens.kinds x.places x.tokens.numbers
