-- What the functions of this crate pass over, and where they stand then: for every column of numbers and every table, since the kinds alone
-- decide.
use Rattle.std.specs.Prelude.{List, Bool, ◌||◌, ◌&&◌, ℕ, ℤ, eqb, pos}
use Rattle.std.specs.Int.Signed.{le_z}
use Rattle.definition.specs.Kind.{end, atomic_word, static_word, comma, semicolon}
use Rattle.definition.specs.Token.{Tokens}
use Rattle.definition.specs.Table.{Table, State}
use Rattle.definition.specs.Specifier.{is_qualifier_word}

-- the columns of tokens
abbrev pub tokens : List ℕ → List ℕ → Tokens
tokens ks ns = record { kinds = ks; numbers = ns }

-- the state at an index
abbrev pub standing : ℕ → Table → State
standing i t = record { at = i; table = t }

-- ---- classes of kinds

-- a qualifier, or `_Atomic`, which is passed over
abbrev pub qualifies : ℕ → Bool
qualifies k = is_qualifier_word k || eqb k atomic_word

-- `static` or a qualifier in brackets
abbrev pub precedes_bound : ℕ → Bool
precedes_bound k = eqb k static_word || (is_qualifier_word k || eqb k atomic_word)

-- an initialiser ends before the token, at so deep a nesting
abbrev pub ends_initialiser : ℕ → ℤ → Bool
ends_initialiser k depth = eqb k end || ((eqb k comma || eqb k semicolon) && le_z depth (pos 0))
