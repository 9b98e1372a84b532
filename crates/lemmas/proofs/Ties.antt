-- Numbers that tie are equal. Assumes nothing.
use mathlib.Core.Path.{◌≡◌}
use Prim.Native.Nat.{ℕ}
use Rattle.std.proofs.Common.{rules}
use Rattle.std.specs.Prelude.{◌==◌}
use Rattle.std.specs.Ordering.{nat_cmp, is_eq}
use Rattle.std.specs.Cmp.Rules.{comparing}

pub nat_tie : (x y : ℕ) → (x == y) ≡ is_eq (nat_cmp x y)
nat_tie x y = search (comparing, rules)
