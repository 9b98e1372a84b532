-- Bytes by name, where the lexer looks for one byte.
use Rattle.std.specs.Prelude.{ℕ}
use Prim.Native.Char.{code}

abbrev pub line_feed : ℕ
line_feed = code "\n"

abbrev pub space : ℕ
space = code " "

abbrev pub backslash : ℕ
backslash = code "\\"

abbrev pub slash_byte : ℕ
slash_byte = code "/"

abbrev pub star_byte : ℕ
star_byte = code "*"

abbrev pub hash : ℕ
hash = code "#"

abbrev pub apostrophe : ℕ
apostrophe = code "'"

abbrev pub quote : ℕ
quote = code "\""

abbrev pub underscore : ℕ
underscore = code "_"

abbrev pub dot_byte : ℕ
dot_byte = code "."

abbrev pub open_byte : ℕ
open_byte = code "("

abbrev pub close_byte : ℕ
close_byte = code ")"
