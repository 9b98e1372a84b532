-- The loop over the pieces of a text: what is left of it gives the whole.
use Rattle.std.specs.Prelude.{◌≡◌, Bool, List, ℕ, ◌+◌, ◌-◌, ◌*◌, ◌≤◌, ◌<◌, length}
use Rattle.definition.specs.Answer.{Answer}
use Rattle.definition.specs.Text.{Bytes}
use Rattle.definition.specs.Token.{Token}
use Rattle.definition.specs.Spelling.{Spelling}
use Rattle.definition.specs.Cut.{Cutting, cut_all}
use Rattle.next_token.specs.Pieces.{state}
use Rattle.spellings.specs.Chain.{HeadCount, Chained}
use Rattle.lexer.specs.Columns.{Holds, Room}
use Rattle.lexer.specs.Names.{Named}

pub record Going (text : Bytes) (at : ℕ) (line : Bool) (count : ℕ) (ks ps ns : List ℕ) (whole : Answer Cutting) : Type 0 where
  pub tokens : List Token
  pub names : List Spelling
  pub rounds : ℕ
  pub enough : length text - at < rounds
  pub same : whole ≡ cut_all rounds text (state at line tokens names)
  pub counted : count ≡ length tokens
  pub few : count ≤ at
  pub holds : Holds tokens ks ps ns
  pub named : Named text ks ns count names

-- the same with the links of the names
pub record Linked (text : Bytes) (at : ℕ) (line : Bool) (count : ℕ) (ks ps ns ls : List ℕ) (heads : ℕ) (whole : Answer Cutting) : Type 0 where
  pub going : Going text at line count ks ps ns whole
  pub room : Room text ks ps ns
  pub hashes : HeadCount heads
  pub links : heads + 2 * length text ≤ length ls
  pub chained : Chained text ks ns ls heads count
