-- What is told of the entries of two lists.
use Rattle.std.specs.Prelude.{◌≡◌, Bool, false, List, Option, MatchOption, ℕ, ◌≤◌, ◌<◌, ℤ, length, get_or, drop}
use Rattle.definition.specs.Table.{Table, Member, Value, Parameter, carrying}
use Rattle.definition.specs.Types.{pairwise}
use Rattle.table.specs.Held.{InWords, InWides, InSigneds}

-- where r is true the words hold no table
abbrev pub NoTable : List ℕ → Bool → Type 0
NoTable w r = (t : Table) → InWords t w → r ≡ false

-- what was read of each entry from one on is another row
abbrev pub Others : (ℕ → ℕ → Type 0) → ℕ → ℕ → ℕ → Type 0
Others reads row from end = (k : ℕ) → from ≤ k → k < end → (n : ℕ) × reads k n × (n ≡ row → ⊥)

-- r is the first entry from `from` on of which a row was read
abbrev pub Next : (ℕ → ℕ → Type 0) → ℕ → ℕ → ℕ → Option ℕ → Type 0
Next reads row from count r = MatchOption r (Others reads row from count) (λ i. (from ≤ i) × (i < count) × reads i row × Others reads row from i)

-- the kinds of entries
pub data Kind : Type 0 where
  members values parameters : Kind

abbrev pub Entry : Kind → Type 0
Entry members = Member
Entry values = Value
Entry parameters = Parameter

-- Two lists are the same, whatever entries these are: `reads` is what was read of an entry's row, and `tells` what was told of two entries.
pub record Pairs (reads : ℕ → ℕ → Type 0) (tells : ℕ → ℕ → Bool → Type 0) (count mark first row other entries : ℕ) (r : Bool) : Type 0 where
  pub of : (k : Kind) (row_of : Entry k → ℕ) (same : Entry k → Entry k → Bool) (blank : Entry k) (es : List (Entry k)) → count ≡ length es
      → ((i n : ℕ) → reads i n → n ≡ row_of (get_or es i blank))
      → ((a b : ℕ) (s : Bool) → tells a b s → s ≡ same (get_or es a blank) (get_or es b blank))
      → r ≡ pairwise same (carrying row_of mark entries (drop first es)) (carrying row_of row entries (drop other es))

-- a test of what the slices hold
pub record MembersSay (f : Table → Bool) (w d : List ℕ) (r : Bool) : Type 0 where
  pub of : (t : Table) → InWords t w → InWides t d → r ≡ f t

pub record ValuesSay (f : Table → Bool) (w : List ℕ) (v : List ℤ) (r : Bool) : Type 0 where
  pub of : (t : Table) → InWords t w → InSigneds t v → r ≡ f t

pub record ParametersSay (f : Table → Bool) (w : List ℕ) (r : Bool) : Type 0 where
  pub of : (t : Table) → InWords t w → r ≡ f t

-- the same of a table with a number of entries
pub record MembersCompare (count : ℕ) (f : Table → Bool) (w d : List ℕ) (r : Bool) : Type 0 where
  pub of : (t : Table) → InWords t w → InWides t d → count ≡ length t.members → r ≡ f t

pub record ValuesCompare (count : ℕ) (f : Table → Bool) (w : List ℕ) (v : List ℤ) (r : Bool) : Type 0 where
  pub of : (t : Table) → InWords t w → InSigneds t v → count ≡ length t.values → r ≡ f t

pub record ParametersCompare (count : ℕ) (f : Table → Bool) (w : List ℕ) (r : Bool) : Type 0 where
  pub of : (t : Table) → InWords t w → count ≡ length t.parameters → r ≡ f t
