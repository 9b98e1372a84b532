-- An option of the code, as the definition's.
use Rattle.std.specs.Prelude.{Option, Some, None}
use Rattle.std.proofs.Math.Option.{Option as MeantOption, some, none}

abbrev pub option : {A : Type 0} → Option A → MeantOption A
option (Some x) = some x
option None = none

-- the same of a value that means one of the definition's
abbrev pub option_by : {A B : Type 0} → (A → B) → Option A → MeantOption B
option_by f (Some x) = some (f x)
option_by f None = none
