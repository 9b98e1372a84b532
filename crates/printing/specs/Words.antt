-- What the code's values are as words.
use Rattle.std.specs.Prelude.{Option, Some, None}
use Rattle.definition.specs.Text.{Bytes}
use Rattle.definition.specs.Listing.{dash}

-- a word, or a dash where there is none
abbrev pub or_dash_of : {W : Type 0} → (W → Bytes) → Option W → Bytes
or_dash_of bytes (Some x) = bytes x
or_dash_of bytes None = dash
