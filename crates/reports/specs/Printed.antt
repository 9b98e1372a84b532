-- What is printed of the outcome of a call.
use Rattle.std.specs.Prelude.{◌≡◌, List, ℕ, ℤ}
use Rattle.definition.specs.Text.{Bytes}
use Rattle.definition.specs.Model.{Model}
use Rattle.definition.specs.Entry as meant
use Rattle.definition.specs.Lent.{Lent, long_enough, left_in}
use Rattle.definition.specs.Listing.{listing, printed_outcome}
use Rattle.definition_laws.specs.Inside.{Acceptable}
use Rattle.table.specs.declared.Cursor.{Cursor}
use Rattle.clearing.specs.Slices.{lent}
use Rattle.printing.specs.declared.Writer.{Writer}
use Rattle.printing.specs.Written.{Writes}
use Rattle.entry_points.specs.Answers.{counts_of, Told, out, answered}
use Rattle.entry_points.specs.declared.Counts.{Counts}

-- How long a buffer for a listing is: longer than the listing of any accepted text, which has at most `maxListing` bytes (crate `listing_length`).
abbrev pub buffer_length : ℕ
buffer_length = 1048576

abbrev pub cursor_of : Counts → Cursor
cursor_of c = record { at = 0; rows = c.rows; members = c.members; values = c.values; parameters = c.parameters; declarations = c.declarations }

-- the slices are as an accepted text leaves them
pub record Table (c : Counts) (w d : List ℕ) (v : List ℤ) : Type 0 where
  pub of : Lent
  pub all : meant.Accepted
  pub acceptable : Acceptable all
  pub counts : c ≡ counts_of all
  pub left : lent w d v ≡ left_in of (meant.accepted all)

-- the listing of whatever table they hold
pub record Lists (text : Bytes) (m : Model) (c : Counts) (w d : List ℕ) (v : List ℤ) (o o' : Writer) : Type 0 where
  pub same : o'.buffer.ghost_name ≡ o.buffer.ghost_name
  pub of : (x : Table c w d v) → Writes (listing text m x.all.table) o o'

-- they are as a call with this outcome leaves them
pub record Answered (model : ℕ) (text : Bytes) (r : Told) (w d : List ℕ) (v : List ℤ) : Type 0 where
  pub of : Lent
  pub entry : meant.Entry
  pub is : out r (lent w d v) ≡ answered of model entry text

-- what is printed of whatever call that was
pub record Prints (model : ℕ) (text : Bytes) (r : Told) (w d : List ℕ) (v : List ℤ) (o o' : Writer) : Type 0 where
  pub same : o'.buffer.ghost_name ≡ o.buffer.ghost_name
  pub of : (l : Lent) (entry : meant.Entry) → out r (lent w d v) ≡ answered l model entry text → Writes (printed_outcome model text (meant.outcome model (long_enough l) entry text)) o o'
