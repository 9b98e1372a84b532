-- Laws of strings. Assumes nothing.
use mathlib.Core.Path.{◌≡◌, ap}
use mathlib.Core.Bool.{Bool, true, false, ◌&&◌, not}
use Prim.Native.Nat.{ℕ, suc, ◌+◌, ◌≤◌, ◌<◌}
use lib.Dec.{eqb}
use lib.ListN.{length, get_or}
use Rattle.definition.specs.Text.{Bytes}
use Rattle.definition.specs.Scan.{from}
use Rattle.definition.specs.Quoted.{in_quotes}
use Rattle.lemmas.proofs.Lists.{drop-next}
use Rattle.scan.proofs.Going.{from_end}

module _ (text : Bytes) (i : ℕ) (taken : Bool) where
  pub quotes_end : length text ≤ i → in_quotes taken (from text i) ≡ 0
  unfolding in_quotes
  quotes_end h = rw (from_end text i h)

  -- a turn of the loop
  pub quotes_next : i < length text
      → in_quotes taken (from text i) ≡ elim (not taken && eqb (get_or text i 0) 34) as (λ z. ℕ) [ true ↦ 0 | false ↦ suc (in_quotes (not taken && eqb (get_or text i 0) 92) (from text (i + 1))) ]
  unfolding in_quotes
  quotes_next h = ap (in_quotes taken) (drop-next text i 0 h)
