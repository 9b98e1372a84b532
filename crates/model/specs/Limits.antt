-- The limits of document 01, as the code lists them.
use Rattle.std.specs.Prelude.{List, [], ◌∷◌, ℕ}
use Rattle.definition.specs.Limit.{max_text, max_rows, max_declarations, max_members, max_values, max_parameters, max_steps, max_names, max_depth, max_resolve, align_levels}

-- of texts, tables and declarators
abbrev pub sizes : List ℕ
sizes = max_text ∷ max_rows ∷ max_declarations ∷ max_members ∷ max_values ∷ max_parameters ∷ max_steps ∷ max_names ∷ []

-- of depths
abbrev pub levels : List ℕ
levels = max_depth ∷ max_resolve ∷ align_levels ∷ []
