-- What `tokenize` answers, by the lengths of the columns and by what `lex` says. Assumes nothing.
use mathlib.Core.Path.{◌≡◌, ap, ◌∙◌}
use mathlib.Core.List.{List}
use Prim.Native.Nat.{ℕ, ◌+◌, ◌*◌, ◌≤◌}
use native.Mathlib.Omega.{arith}
use lib.ListN.{length, replicate, length-replicate}
use Rattle.definition.specs.Limit.{max_text}
use Rattle.definition.specs.Text.{Bytes}
use Rattle.spellings.specs.Chain.{HeadCount}
use Rattle.lexer.specs.Columns.{LinksIf}

-- links, all zero, for any text
pub zero_links : (text : Bytes) (ls : List ℕ) (heads n : ℕ) → HeadCount heads → heads + 2 * max_text ≤ n → ls ≡ replicate n 0 → LinksIf text ls heads
zero_links text ls heads n k h e =
    let l : length ls ≡ n = ap (λ (x : List ℕ). length x) e ∙ length-replicate n 0 in
    record { hashes = k; zero = rw l e; run = λ q. omega arith }
