-- What is answered, and what stands in the lent columns then.
use Rattle.std.specs.Prelude.{◌≡◌, List, ◌++◌, map, ℕ, ◌+◌, ◌-◌, ◌*◌, ◌≤◌, length, replicate, Result, MatchResult}
use Rattle.definition.specs.Answer.{Answer, got, refused}
use Rattle.definition.specs.Limit.{max_text}
use Rattle.definition.specs.Text.{Bytes}
use Rattle.definition.specs.Token.{Token, Lexed}
use Rattle.definition.specs.Cut.{Cutting, cut}
use Rattle.spellings.specs.Chain.{HeadCount}
use Rattle.encoding.specs.Refusals.{number_of}
use Rattle.encoding.specs.declared.refusals.Refusal.{Refusal}

-- numbers, with zeros after them
unfoldable pub padded : ℕ → List ℕ → List ℕ
padded n xs = xs ++ replicate (n - length xs) 0

-- a column holds a part of each token
abbrev pub kinds_of : List Token → List ℕ
kinds_of ts = map (λ t. t.kind) ts

abbrev pub places_of : List Token → List ℕ
places_of ts = map (λ t. t.place) ts

abbrev pub numbers_of : List Token → List ℕ
numbers_of ts = map (λ t. t.number) ts

pub record Holds (ts : List Token) (ks ps ns : List ℕ) : Type 0 where
  pub kinds : ks ≡ padded (length ks) (kinds_of ts)
  pub places : ps ≡ padded (length ps) (places_of ts)
  pub numbers : ns ≡ padded (length ns) (numbers_of ts)

-- a text that is not too long, and an entry for each byte of it
pub record Room (text : Bytes) (ks ps ns : List ℕ) : Type 0 where
  pub fits : length text ≤ max_text
  pub kinds : length text ≤ length ks
  pub places : length text ≤ length ps
  pub numbers : length text ≤ length ns

-- the same where the text may be too long
pub record RoomIf (text : Bytes) (ks ps ns : List ℕ) : Type 0 where
  pub run : length text ≤ max_text → Room text ks ps ns

-- all zero
pub record Zero (ks ps ns : List ℕ) : Type 0 where
  pub kinds : ks ≡ replicate (length ks) 0
  pub places : ps ≡ replicate (length ps) 0
  pub numbers : ns ≡ replicate (length ns) 0

-- links, all zero: the heads, and two for each byte of a text that is not too long
pub record LinksIf (text : Bytes) (ls : List ℕ) (heads : ℕ) : Type 0 where
  pub hashes : HeadCount heads
  pub zero : ls ≡ replicate (length ls) 0
  pub run : length text ≤ max_text → heads + 2 * length text ≤ length ls

-- what the loop leaves: nothing is said of the columns where it refused
pub record Filled (text : Bytes) (count : ℕ) (ks ps ns : List ℕ) : Type 0 where
  pub end : Cutting
  pub same : cut text ≡ got end
  pub counted : count ≡ length end.tokens
  pub holds : Holds end.tokens ks ps ns

abbrev pub Fills : Bytes → Result ℕ Refusal → List ℕ → List ℕ → List ℕ → Type 0
Fills text r ks ps ns = MatchResult r (λ count. Filled text count ks ps ns) (λ e. cut text ≡ refused (number_of e.reason) e.at)

-- the tokens that the definition gives, with zeros after them
pub record Tokens (a : Answer Lexed) (count : ℕ) (ks ps ns : List ℕ) : Type 0 where
  pub lexed : Lexed
  pub same : a ≡ got lexed
  pub counted : count ≡ length lexed.places
  pub kinds : ks ≡ padded (length ks) lexed.tokens.kinds
  pub places : ps ≡ padded (length ps) lexed.places
  pub numbers : ns ≡ padded (length ns) lexed.tokens.numbers

-- The definition's answer, in columns of any length. On a refusal the columns are free: the definition does not tell the tokens before it.
abbrev pub Lexes : Answer Lexed → Result ℕ Refusal → List ℕ → List ℕ → List ℕ → Type 0
Lexes a r ks ps ns = MatchResult r (λ count. Tokens a count ks ps ns) (λ e. a ≡ refused (number_of e.reason) e.at)

-- What is free is as long as it was: the links, which no one reads once the text is cut, and the columns of a refused text. Any numbers may stand there.
pub record SameLengths (ks ps ns ls ks' ps' ns' ls' : List ℕ) : Type 0 where
  pub kinds : length ks' ≡ length ks
  pub places : length ps' ≡ length ps
  pub numbers : length ns' ≡ length ns
  pub links : length ls' ≡ length ls
