-- What a piece of the text does to the cutting.
use Rattle.std.specs.Prelude.{◌≡◌, Bool, true, false, List, ℕ, ◌-◌, ◌≤◌, ◌<◌, length, take, Result}
use Rattle.definition.specs.Answer.{Answer, got, ◌>>=◌}
use Rattle.definition.specs.Text.{Bytes, byte_at}
use Rattle.definition.specs.Scan.{from}
use Rattle.definition.specs.Class.{class_of}
use Rattle.definition.specs.Kind.{is_name}
use Rattle.definition.specs.Token.{Token}
use Rattle.definition.specs.Spelling.{Spelling}
use Rattle.definition.specs.Attribute.{attribute_at}
use Rattle.definition.specs.Cut.{Cutting, push, push_name, push_attribute}
use Rattle.encoding.specs.Kinds.{kind_number}
use Rattle.encoding.specs.Refusals.{answer_by}
use Rattle.encoding.specs.declared.refusals.Refusal.{Refusal}
use Rattle.next_token.specs.declared.Piece.{Piece}
use Rattle.next_token.specs.declared.Piece.TheVariants.{Skip, Token as Piece-as-Token, Name}

abbrev pub applied : Bytes → Piece → Cutting → Cutting
applied text (Skip next line) s = record { at = next; line_start = line; tokens = s.tokens; names = s.names }
applied text (Piece-as-Token k n next) s = push (kind_number k) n next s
applied text (Name k next) s = push_name (kind_number k) (take (next - s.at) (from text s.at)) s

-- the text goes on after a piece; a token of a name's kind is a name, and a name ends within the text
abbrev pub Goes : Bytes → ℕ → Piece → Type 0
Goes text at (Skip next line) = at < next
Goes text at (Piece-as-Token k n next) = (at < next) × (is_name (kind_number k) ≡ false)
Goes text at (Name k next) = (at < next) × (is_name (kind_number k) ≡ true) × (next ≤ length text)

abbrev pub state : ℕ → Bool → List Token → List Spelling → Cutting
state at line ts ns = record { at = at; line_start = line; tokens = ts; names = ns }

-- a step of the definition is what the piece does, if a line starts there or not, and whatever was read before
abbrev pub CutsOn : (Cutting → Answer Cutting) → Bytes → ℕ → Bool → Result Piece Refusal → Type 0
CutsOn f text at line r = (ts : List Token) (ns : List Spelling) → answer_by (λ p. applied text p (state at line ts ns)) r ≡ f (state at line ts ns)

abbrev pub Cuts : (Cutting → Answer Cutting) → Bytes → ℕ → Result Piece Refusal → Type 0
Cuts f text at r = (line : Bool) → CutsOn f text at line r

-- a byte of a class stands at an offset
pub record Starts (text : Bytes) (at k : ℕ) : Type 0 where
  pub inside : at < length text
  pub class : class_of (byte_at text at) ≡ k

-- an attribute whose word ends at an offset
unfoldable pub cut_attribute : Bytes → ℕ → Cutting → Answer Cutting
cut_attribute text end s = attribute_at text s.at end >>= (λ a. got (push_attribute a s))
