-- The columns, lent, when one token more is stored.
use Rattle.std.specs.Prelude.{◌≡◌, List, ℕ, ◌+◌, ◌<◌, length, set}
use Rattle.definition.specs.Text.{Bytes}
use Rattle.encoding.specs.Kinds.{kind_numbers}
use Rattle.lexer.specs.Names.{Stores}
use Rattle.lexer.specs.declared.TokenColumns.{TokenColumns}

-- room for one token more
pub record HasRoom (t : TokenColumns) : Type 0 where
  pub kinds : t.count < length (kind_numbers t.kinds.now)
  pub places : t.count < length t.places.now
  pub numbers : t.count < length t.numbers.now

-- they are still the columns that were lent
pub record Keeps (t t' : TokenColumns) : Type 0 where
  pub kinds : t'.kinds.ghost_name ≡ t.kinds.ghost_name
  pub places : t'.places.ghost_name ≡ t.places.ghost_name
  pub numbers : t'.numbers.ghost_name ≡ t.numbers.ghost_name

-- a token more
pub record Pushed (kind place number : ℕ) (t t' : TokenColumns) : Type 0 where
  pub keeps : Keeps t t'
  pub kinds : kind_numbers t'.kinds.now ≡ set (kind_numbers t.kinds.now) t.count kind
  pub places : t'.places.now ≡ set t.places.now t.count place
  pub numbers : t'.numbers.now ≡ set t.numbers.now t.count number
  pub count : t'.count ≡ t.count + 1

-- a name more
pub record PushedName (text : Bytes) (heads kind at end : ℕ) (t : TokenColumns) (ls : List ℕ) (t' : TokenColumns) (ls' : List ℕ) : Type 0 where
  pub keeps : Keeps t t'
  pub stores : Stores text (kind_numbers t.kinds.now) t.places.now t.numbers.now heads t.count kind at end (kind_numbers t'.kinds.now) t'.places.now t'.numbers.now ls'
  pub count : t'.count ≡ t.count + 1
