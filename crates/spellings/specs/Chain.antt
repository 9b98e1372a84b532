-- Trees of the names read so far, one for each hash of a spelling. A link is the index of a token and 1, or 0. Among the links the heads stand first, then two for each token.
use Rattle.std.specs.Prelude.{◌≡◌, true, false, List, ℕ, suc, ◌+◌, ◌-◌, ◌*◌, ◌/◌, ◌%◌, ◌^◌, ◌≤◌, ◌<◌, ltb, length, get_or}
use Rattle.std.specs.List.{fold}
use Rattle.definition.specs.Text.{Bytes, byte_at}
use Rattle.definition.specs.Kind.{is_name}
use Rattle.definition.specs.Limit.{max_text}
use Rattle.spellings.specs.declared.Spot.{Spot}
use Rattle.spellings.specs.declared.Spot.TheVariants.{Known, Free}
use Rattle.spellings.specs.Names.{spelled_by, Inside, is_name_of}

-- any function of the spelling would do
abbrev pub hashed : Bytes → ℕ
hashed = fold (λ h b. (33 * h + b) % 4096) 0

-- few heads for a small text, as all heads are cleared before it is read
pub data HeadCount (n : ℕ) : Type 0 where
  few : n ≡ 64 → HeadCount n
  many : n ≡ 4096 → HeadCount n

-- the head of a spelling among so many
abbrev pub slot : Bytes → ℕ → ℕ
slot w n = hashed w % n

-- the bit of a spelling that a step at a depth goes by; any function of the two would do
unfoldable pub bit_of : Bytes → ℕ → ℕ
bit_of w d = elim (ltb (length w) (d / 8 + 1)) [ true ↦ 0 | false ↦ byte_at w (length w - (d / 8 + 1)) / 2 ^ (d % 8) % 2 ]

-- where the link of a token stands that a spelling goes by
abbrev pub branch : ℕ → Bytes → ℕ → ℕ → ℕ
branch heads w d i = heads + 2 * i + bit_of w d

-- a token that a spelling comes by, from a link at a depth
pub data Reach (heads : ℕ) (ls : List ℕ) (w : Bytes) : ℕ → ℕ → ℕ → Type 0 where
  here : (d s j : ℕ) → get_or ls s 0 ≡ suc j → Reach heads ls w d s j
  there : (d s i j : ℕ) → get_or ls s 0 ≡ suc i → Reach heads ls w (d + 1) (branch heads w d i) j → Reach heads ls w d s j

-- links are only added
abbrev pub Keeps : List ℕ → List ℕ → Type 0
Keeps ls ls' = (s : ℕ) → (get_or ls s 0 ≡ 0 → ⊥) → get_or ls' s 0 ≡ get_or ls s 0

-- a link goes to a token before the count, and to one after its own
pub record Rising (ls : List ℕ) (heads count : ℕ) : Type 0 where
  pub low : (s : ℕ) → get_or ls s 0 ≤ count
  pub rises : (i b : ℕ) → b < 2 → 0 < get_or ls (heads + 2 * i + b) 0 → i + 1 < get_or ls (heads + 2 * i + b) 0

-- what a walk needs
pub record Walks (text : Bytes) (ks ns ls : List ℕ) (count heads head : ℕ) : Type 0 where
  pub kinds : count ≤ length ks
  pub numbers : count ≤ length ns
  pub links : heads + 2 * count ≤ length ls
  pub short : count ≤ max_text
  pub starts : head < heads
  pub inside : (j : ℕ) → j < count → is_name (get_or ks j 0) ≡ true → Inside text (get_or ns j 0)
  pub rising : Rising ls heads count

-- what it comes to: a token of the spelling
pub record Met (text w : Bytes) (ks ns : List ℕ) (count n : ℕ) : Type 0 where
  pub token : ℕ
  pub before : token < count
  pub spells : is_name_of text w (get_or ks token 0) (get_or ns token 0) ≡ true
  pub same : n ≡ get_or ns token 0

-- or none in the tree, and a free link by which the spelling would come to a token
pub record Missed (text w : Bytes) (ks ns ls : List ℕ) (count heads head s : ℕ) : Type 0 where
  pub within : s < heads + 2 * count
  pub free : get_or ls s 0 ≡ 0
  pub none : (j : ℕ) → Reach heads ls w 0 head j → is_name_of text w (get_or ks j 0) (get_or ns j 0) ≡ false
  pub path : (ls' : List ℕ) (j : ℕ) → Keeps ls ls' → get_or ls' s 0 ≡ suc j → Reach heads ls' w 0 head j

abbrev pub Walked : Bytes → Bytes → List ℕ → List ℕ → List ℕ → ℕ → ℕ → ℕ → Spot → Type 0
Walked text w ks ns ls count heads head (Known n) = Met text w ks ns count n
Walked text w ks ns ls count heads head (Free s) = Missed text w ks ns ls count heads head s

-- every name among the tokens is in the tree of its spelling, at its first token
pub record Chained (text : Bytes) (ks ns ls : List ℕ) (heads count : ℕ) : Type 0 where
  pub rising : Rising ls heads count
  pub chain : (j : ℕ) → j < count → is_name (get_or ks j 0) ≡ true
      → (i : ℕ) × Reach heads ls (spelled_by text (get_or ns j 0)) 0 (slot (spelled_by text (get_or ns j 0)) heads) i × (get_or ns i 0 ≡ get_or ns j 0) × (is_name (get_or ks i 0) ≡ true) × (i < count)
