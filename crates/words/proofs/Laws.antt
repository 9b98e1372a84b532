-- A bool as a number. Assumes nothing.
use mathlib.Core.Bool.{Bool, true, false}
use Prim.Native.Nat.{◌≤◌}
use lib.Dec.{lit≤}
use mir.Val.{bool_byte}

pub byte_small : (b : Bool) → bool_byte b ≤ 1
byte_small true = lit≤ tt
byte_small false = lit≤ tt
