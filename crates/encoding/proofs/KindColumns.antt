-- Columns of kinds, and the columns of their numbers. Assumes nothing.
use mathlib.Core.Path.{◌≡◌, refl, ap}
use mathlib.Core.List.{List, ◌∷◌}
use Prim.Native.Nat.{ℕ, zero, suc, ◌<◌}
use lib.ListN.{length, get_or, get_or-map, replicate, length-map}
use Rattle.std.proofs.lemmas.List.{map-set}
use Rattle.encoding.specs.Kinds.{kind_number, kind_numbers}
use Rattle.encoding.proofs.TokenKinds.{one_kind}
use Rattle.encoding.specs.declared.token_kinds.TokenKind.{TokenKind}
use Rattle.encoding.specs.declared.token_kinds.TokenKind.TheVariants.{End}

-- the number of a kind that stands in a column
pub kind_there : (ks : List TokenKind) (i : ℕ) → get_or (kind_numbers ks) i 0 ≡ kind_number (get_or ks i End)
kind_there ks i = get_or-map kind_number ks i End

pub kinds_inside : (ks : List TokenKind) {i : ℕ} → i < length ks → i < length (kind_numbers ks)
kinds_inside ks h = rw (length-map ks kind_number) h

-- a column that is cleared
pub kinds_cleared : (n : ℕ) → kind_numbers (replicate n End) ≡ replicate n 0
kinds_cleared zero = refl
kinds_cleared (suc n) = ap (λ (x : List ℕ). 0 ∷ x) (kinds_cleared n)

pub kinds_filled : (n : ℕ) (k : TokenKind) → kind_number k ≡ 0 → kind_numbers (replicate n k) ≡ replicate n 0
kinds_filled n k e = rw (one_kind k End e) (kinds_cleared n)

-- a kind more, in a column as long as before
pub ruleset kinds_stored = (map-set, length-map)

-- a kind that is read
pub ruleset columns_read = (kind_there, kinds_inside)
