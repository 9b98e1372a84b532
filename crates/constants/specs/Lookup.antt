-- Where the enumerators' names and values stand in the lent slices, and the value of a name.
use Rattle.std.specs.Prelude.{List, true, false, ℕ, zero, suc, ◌+◌, ◌*◌, min, eqb, ℤ, pos, get_or, Option, Some, None}
use Rattle.std.proofs.Math.Option as maybe
use Rattle.definition.specs.Region.{value_columns, values_at, names_at}
use Rattle.table.specs.Held.{value_slot}

-- the name of entry k, which has its row, then its name
abbrev pub name_in : List ℕ → ℕ → ℕ
name_in w k = get_or w (values_at + value_columns * k + 1) 0

-- "the last enumerator of a spelling winning", among the first so many entries
unfoldable pub last_value : List ℕ → List ℤ → ℕ → ℕ → maybe.Option ℤ
last_value w v zero name = maybe.none
last_value w v (suc k) name = elim (eqb (name_in w k) name) [ true ↦ maybe.some (get_or v k (pos 0)) | false ↦ last_value w v k name ]

-- The same of all so many, where the index of names has a bound for those of a name (Held of the crate table): from it on none has the name.
abbrev pub bound_in : List ℕ → ℕ → ℕ
bound_in w name = get_or w (names_at + value_slot name) 0

unfoldable pub known_value : List ℕ → List ℤ → ℕ → ℕ → maybe.Option ℤ
known_value w v count name = last_value w v (min count (bound_in w name)) name

-- what a search answers
unfoldable pub found : Option ℤ → maybe.Option ℤ
found (Some z) = maybe.some z
found None = maybe.none
