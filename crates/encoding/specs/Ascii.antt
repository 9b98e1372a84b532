-- The bytes that the code names, in order.
use Rattle.std.specs.Prelude.{List, [], ◌∷◌, ℕ}
use Prim.Native.Char.{code}

abbrev pub ascii : List ℕ
ascii = code "\n" ∷ code " " ∷ code "!" ∷ code "\"" ∷ code "#" ∷ code "%" ∷ code "&" ∷ code "'" ∷ code "(" ∷ code ")" ∷ code "*" ∷ code "+" ∷ code "," ∷ code "-" ∷ code "." ∷ code "/" ∷ code ":" ∷ code ";" ∷ code "<" ∷ code "=" ∷ code ">" ∷ code "?" ∷ code "[" ∷ code "\\" ∷ code "]" ∷ code "^" ∷ code "{" ∷ code "|" ∷ code "}" ∷ code "~" ∷ []
