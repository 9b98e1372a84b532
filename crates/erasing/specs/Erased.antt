-- What stands in the lent slices after the index, or all that a refused text left, is taken out.
use Rattle.std.specs.Prelude.{◌≡◌, List, ℕ, ◌*◌, ℤ, pos, replicate}
use Rattle.definition.specs.Limit.{max_names}
use Rattle.definition.specs.Table.{Table}
use Rattle.definition.specs.Region.{words_length, wides_length, signeds_length}
use Rattle.table.specs.Held.{reading_words, InWords, Marked, Left}

-- The names' part is zero; the table stands.
pub record IndexCleared (w w' : List ℕ) : Type 0 where
  pub run : (t : Table) (cs : List ℕ) (h : InWords t w) → Marked cs h.rest → w' ≡ reading_words t (replicate (2 * max_names) 0)

-- Whatever table the slices held, they are zero.
pub record Erased (w d : List ℕ) (v : List ℤ) (w' d' : List ℕ) (v' : List ℤ) : Type 0 where
  pub run : Left w d v → (w' ≡ replicate words_length 0) × ((d' ≡ replicate wides_length 0) × (v' ≡ replicate signeds_length (pos 0)))
