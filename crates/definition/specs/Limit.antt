-- The limits of document 01.
use Rattle.std.specs.Prelude.{ℕ}

-- "bytes 0 to 127, at most 32,768 of them"
abbrev pub max_text : ℕ
max_text = 32768

-- "1,024 type rows, 1,024 declarations, 4,096 members, 4,096 enumerators and 4,096 parameters"; void is one of the rows
abbrev pub max_rows : ℕ
max_rows = 1024

abbrev pub max_declarations : ℕ
max_declarations = 1024

abbrev pub max_members : ℕ
max_members = 4096

abbrev pub max_values : ℕ
max_values = 4096

abbrev pub max_parameters : ℕ
max_parameters = 4096

-- "at most 256 stars, bounds and parameter lists in one declarator"
abbrev pub max_steps : ℕ
max_steps = 256

-- "the name table has 16,384 entries, which no text can pass"
abbrev pub max_names : ℕ
max_names = 16384

-- "depth above 64" is refused
abbrev pub max_depth : ℕ
max_depth = 64

-- "`resolve` looks through at most 64 typedefs and qualifiers"
abbrev pub max_resolve : ℕ
max_resolve = 64

-- "`align_at` gives nothing below depth 32": depths 0 to 32
abbrev pub align_levels : ℕ
align_levels = 33
