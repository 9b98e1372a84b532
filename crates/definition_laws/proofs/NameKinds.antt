-- The kinds of tokens that are names, by their number. Assumes nothing.
use mathlib.Core.Path.{◌≡◌}
use mathlib.Core.Bool.{true, false}
use mathlib.Mathlib.Data.Bool.Basic.{and_intro}
use Prim.Native.Nat.{ℕ, ◌≤◌, ◌<◌}
use lib.Dec.{leb}
use borrow.Author.Tests.{le-leb, lt-leb}
use Rattle.definition.specs.Kind.{is_name}
use Rattle.lemmas.proofs.Truth.{not_first, not_second}

pub name_below : {k : ℕ} → k < 4 → is_name k ≡ false
unfolding is_name
name_below {k} h = not_first (leb k 24) (lt-leb 4 k h)

pub name-within : {k : ℕ} → 4 ≤ k → k ≤ 24 → is_name k ≡ true
unfolding is_name
name-within {k} h l = and_intro (le-leb 4 k h) (le-leb k 24 l)

pub name-above : {k : ℕ} → 24 < k → is_name k ≡ false
unfolding is_name
name-above {k} h = not_second (leb 4 k) (lt-leb k 24 h)
