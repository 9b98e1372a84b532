-- The numbers of which a name is made.
use Rattle.std.specs.Prelude.{List, [], ◌∷◌, ℕ}
use Rattle.definition.specs.Name.{name_unit, no_name}

abbrev pub names : List ℕ
names = name_unit ∷ no_name ∷ []
