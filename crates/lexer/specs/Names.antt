-- The names among the tokens read so far.
use Rattle.std.specs.Prelude.{◌≡◌, true, false, List, ℕ, ◌+◌, ◌-◌, ◌*◌, ◌≤◌, ◌<◌, length, get_or, set, take}
use Rattle.definition.specs.Text.{Bytes}
use Rattle.definition.specs.Scan.{from}
use Rattle.definition.specs.Kind.{is_name}
use Rattle.definition.specs.Name.{name_of}
use Rattle.definition.specs.Spelling.{Spelling, known_name}
use Rattle.definition.specs.Limit.{max_text}
use Rattle.spellings.specs.Names.{spelled_by, Inside, is_name_of}
use Rattle.spellings.specs.Chain.{HeadCount, Chained}

-- what the search needs
pub record Searches (text : Bytes) (ks ps ns ls : List ℕ) (heads count at end : ℕ) : Type 0 where
  pub kinds : count < length ks
  pub places : count < length ps
  pub numbers : count < length ns
  pub hashes : HeadCount heads
  pub links : heads + 2 * count ≤ length ls
  pub few : count ≤ at
  pub on : at < end
  pub ends : end ≤ length text
  pub short : length text ≤ max_text
  pub inside : (j : ℕ) → j < count → is_name (get_or ks j 0) ≡ true → Inside text (get_or ns j 0)
  pub chained : Chained text ks ns ls heads count

-- the name of the spelling from an offset to another: that of a token before, or a new one at this place
pub data Finds (text : Bytes) (ks ns : List ℕ) (count at end r : ℕ) : Type 0 where
  found : (j : ℕ) → j < count → is_name_of text (take (end - at) (from text at)) (get_or ks j 0) (get_or ns j 0) ≡ true → r ≡ get_or ns j 0 → Finds text ks ns count at end r
  fresh : ((j : ℕ) → j < count → is_name_of text (take (end - at) (from text at)) (get_or ks j 0) (get_or ns j 0) ≡ false) → r ≡ name_of at (end - at) → Finds text ks ns count at end r

-- a name is stored
pub record Stores (text : Bytes) (ks ps ns : List ℕ) (heads count kind at end : ℕ) (ks' ps' ns' ls' : List ℕ) : Type 0 where
  pub number : ℕ
  pub finds : Finds text ks ns count at end number
  pub kinds : ks' ≡ set ks count kind
  pub places : ps' ≡ set ps count at
  pub numbers : ns' ≡ set ns count number
  pub chained : Chained text ks' ns' ls' heads (count + 1)

-- a token's number is the name that its spelling was given
pub record Good (text : Bytes) (names : List Spelling) (n : ℕ) : Type 0 where
  pub inside : Inside text n
  pub known : known_name names (spelled_by text n) ≡ n
  pub some : 0 < n

-- the names that the definition keeps are those of the tokens
pub record Named (text : Bytes) (ks ns : List ℕ) (count : ℕ) (names : List Spelling) : Type 0 where
  pub good : (j : ℕ) → j < count → is_name (get_or ks j 0) ≡ true → Good text names (get_or ns j 0)
  pub stands : (w : Bytes) → (known_name names w ≡ 0 → ⊥) → (j : ℕ) × (j < count) × (is_name (get_or ks j 0) ≡ true) × (spelled_by text (get_or ns j 0) ≡ w)
