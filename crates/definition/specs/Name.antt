-- Names. "Names are pairs of offset and length in the header, each spelling .. at its first place as a word token".
-- A pair is kept as one number, 65,536 times the length plus the offset: equal spellings are equal numbers, and 0 is no name.
use Rattle.std.specs.Prelude.{ℕ, ◌+◌, ◌*◌, ◌/◌, ◌%◌}

abbrev pub no_name : ℕ
no_name = 0

-- above every offset
abbrev pub name_unit : ℕ
name_unit = 65536

unfoldable pub name_of : ℕ → ℕ → ℕ
name_of offset length = name_unit * length + offset

unfoldable pub offset_of : ℕ → ℕ
offset_of n = n % name_unit

unfoldable pub length_of : ℕ → ℕ
length_of n = n / name_unit
