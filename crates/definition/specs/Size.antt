-- The size of a row in bytes, exact, or unknown.
use Rattle.std.specs.Prelude.{true, false, ℕ, zero, suc, ◌*◌, ltb}
use Rattle.std.proofs.Math.Option.{Option, none, some}
use Rattle.definition.specs.Model.{Model}
use Rattle.definition.specs.Row.{Row, void, int, float, bool, pointer, array, composite, enumeration, function, typedef, qualified}
use Rattle.definition.specs.Table.{Table, row_at}

-- "The size of an array is its element's size times its bound."
abbrev pub times : Option ℕ → ℕ → Option ℕ
times none b = none
times (some s) b = some (s * b)

-- "An unsized array is one without a bound"
abbrev pub array_size : Option ℕ → Option ℕ → Option ℕ
array_size element none = none
array_size element (some b) = times element b

-- the size of a row, given the sizes of the rows that it names
unfoldable pub size_by : Model → (ℕ → Option ℕ) → Row → Option ℕ
size_by m size void = none
size_by m size (int s g) = some s
size_by m size (float s) = some s
size_by m size bool = some 1
size_by m size (pointer r) = some m.pointer
size_by m size (array r b) = array_size (size r) b
size_by m size (composite u w s e) = s
size_by m size (enumeration w s e) = some s
size_by m size (function r v e) = none
size_by m size (typedef w r) = size r
size_by m size (qualified r q) = size r

-- Arrays, typedefs and qualified types name lower rows, and only a lower row is asked: so f above n is enough.
unfoldable pub size_within : ℕ → Model → Table → ℕ → Option ℕ
size_within zero m t n = none
size_within (suc f) m t n = size_by m (λ r. elim (ltb r n) [ true ↦ size_within f m t r | false ↦ none ]) (row_at t n)

abbrev pub size_of : Model → Table → ℕ → Option ℕ
size_of m t n = size_within (suc n) m t n
