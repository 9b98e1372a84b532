-- What the code says of an attribute, in the definition.
use Rattle.std.specs.Prelude.{Bool, ℕ}
use Rattle.definition.specs.Attribute.{Attribute}

abbrev pub attribute : Bool × ℕ → Attribute
attribute a = record { layout = a.0; next = a.1 }
