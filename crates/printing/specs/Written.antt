-- A lent buffer that is written from a place on. A byte past its end is not written, but counted, so that no buffer is overrun and the count says
-- how long it must be. The count stops at the largest number of 64 bits.
use Rattle.std.specs.Prelude.{◌≡◌, true, false, List, [], ◌∷◌, ◌++◌, ℕ, ◌+◌, ltb, length, set}
use Rattle.definition.specs.Text.{Bytes}
use Rattle.definition.specs.Byte.{space}
use Rattle.printing.specs.declared.Writer.{Writer}

pub record Buffer : Type 0 where
  pub bytes : Bytes
  pub at : ℕ

abbrev pub buffer : Bytes → ℕ → Buffer
buffer out n = record { bytes = out; at = n }

abbrev pub most_counted : ℕ
most_counted = 18446744073709551615

unfoldable pub counted : ℕ → ℕ
counted n = elim (ltb n most_counted) [ true ↦ n + 1 | false ↦ n ]

-- `set` changes nothing past the end
abbrev pub put : Buffer → ℕ → Buffer
put b x = record { bytes = set b.bytes b.at x; at = counted b.at }

unfoldable pub write : Buffer → Bytes → Buffer
write b [] = b
write b (x ∷ xs) = write (put b x) xs

-- A function wrote these bytes from place n on, and answered the place after them.
pub record Wrote (bs out : Bytes) (n : ℕ) (out' : Bytes) (n' : ℕ) : Type 0 where
  pub is : buffer out' n' ≡ write (buffer out n) bs

-- A writer still holds the buffer that it was made of, which is as long as it was.
pub record Keeps (o o' : Writer) : Type 0 where
  pub same : o'.buffer.ghost_name ≡ o.buffer.ghost_name
  pub long : length o'.buffer.now ≡ length o.buffer.now

-- A write with a writer, which still holds the buffer that it was made of.
pub record Writes (bs : Bytes) (o o' : Writer) : Type 0 where
  pub same : o'.buffer.ghost_name ≡ o.buffer.ghost_name
  pub wrote : Wrote bs o.buffer.now o.at o'.buffer.now o'.at

-- the words of a line after its first one, each after a space
unfoldable pub words : List Bytes → Bytes
words [] = []
words (v ∷ vs) = space ∷ v ++ words vs

-- the same of such words
pub record WritesWords (vs : List Bytes) (o o' : Writer) : Type 0 where
  pub written : Writes (words vs) o o'
