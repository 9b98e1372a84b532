-- What it means that a function over the lent slices does what the definition says.
use Rattle.std.specs.Prelude.{◌≡◌, List, ℕ, ℤ, ◌+◌, ◌*◌, ◌≤◌, ◌<◌, get_or, set, Result, Ok, Err}
use Rattle.definition.specs.Answer.{Answer, got, refused}
use Rattle.definition.specs.Row.{Row, kind_of, target_of, flags_of, row_name, span_of, extent_of}
use Rattle.definition.specs.Table.{Table, Declaration as MeantDeclaration, State, Reads}
use Rattle.encoding.specs.Refusals.{number_of}
use Rattle.encoding.specs.Storage.{storage}
use Rattle.encoding.specs.declared.refusals.Reason.TheVariants.{LimitPassed}
use Rattle.encoding.specs.declared.refusals.Refusal.{Refusal}
use Rattle.table.specs.Ends.{Ends}
use Rattle.table.specs.Held.{state, Encodes, InWords, InWides, InSigneds, Left}
use Rattle.table.specs.declared.Cursor.{Cursor}
use Rattle.table.specs.declared.Numbers.{Numbers}
use Rattle.table.specs.declared.Declaration.{Declaration}

-- An answer of the code, whatever its type: a cursor with a value, or a refusal.
pub data Reply (X : Type 0) : Type 0 where
  ok : Cursor → X → Reply X
  bad : ℕ → ℕ → Reply X

pub data Nothing : Type 0 where
  none : Nothing

-- A result of the code as such an answer, by what a value in it means: a cursor with a value, or a cursor alone.
abbrev pub replied : {X Y : Type 0} → (X → Reply Y) → Result X Refusal → Reply Y
replied f (Ok x) = f x
replied f (Err e) = bad (number_of e.reason) e.at

abbrev pub reply : {X : Type 0} → Result (Cursor × X) Refusal → Reply X
reply = replied (λ p. ok p.0 p.1)

-- the same of a value that means one of the definition's
abbrev pub reply_by : {X Y : Type 0} → (X → Y) → Result (Cursor × X) Refusal → Reply Y
reply_by f = replied (λ p. ok p.0 (f p.1))

abbrev pub reply_alone : Result Cursor Refusal → Reply Nothing
reply_alone = replied (λ c. ok c none)

-- how a value and a state stand in the definition's answer: both, or the state alone
abbrev pub both : {X : Type 0} → X → State → X × State
both i s = (i, s)

abbrev pub alone : Nothing → State → State
alone i s = s

-- An answer and the slices say what the definition answers; where it refuses, the slices hold some table, so that what stands in them can be found and cleared.
pub data Shown {X B : Type 0} (pack : X → State → B) (a : Answer B) (r : Reply X) (w d : List ℕ) (v : List ℤ) : Type 0 where
  done : (t : Table) (c : Cursor) (i : X) → a ≡ got (pack i (state c t)) → r ≡ ok c i → Encodes t c w d v → Shown pack a r w d v
  stop : (n p : ℕ) → a ≡ refused n p → r ≡ bad n p → Left w d v → Shown pack a r w d v

abbrev pub Shows : {X B : Type 0} → (X → State → B) → Answer B → Reply X → List ℕ → List ℕ → List ℤ → Type 0
Shows pack a r w d v = Ends (λ b. Shown pack b r w d v) a

-- A function does what f says, from whatever table the slices hold.
pub record Runs {X B : Type 0} (pack : X → State → B) (f : State → Answer B) (c : Cursor) (w d : List ℕ) (v : List ℤ) (r : Reply X) (w' d' : List ℕ) (v' : List ℤ) : Type 0 where
  pub run : (t : Table) → Encodes t c w d v → Shows pack (f (state c t)) r w' d' v'

abbrev pub Does : {X : Type 0} → Reads X → Cursor → List ℕ → List ℕ → List ℤ → Reply X → List ℕ → List ℕ → List ℤ → Type 0
Does f = Runs both f

abbrev pub Moves : (State → Answer State) → Cursor → List ℕ → List ℕ → List ℤ → Reply Nothing → List ℕ → List ℕ → List ℤ → Type 0
Moves f = Runs alone f

-- The same for whatever the code's numbers n are the numbers of.
pub record DoesAs {A N X : Type 0} (numbers_of : A → N) (n : N) (f : A → Reads X) (c : Cursor) (w d : List ℕ) (v : List ℤ) (r : Reply X) (w' d' : List ℕ) (v' : List ℤ) : Type 0 where
  pub of : (x : A) → n ≡ numbers_of x → Does (f x) c w d v r w' d' v'

-- A function changes the table as f says, and no count.
pub record Changes (f : Table → Table) (c : Cursor) (w d : List ℕ) (v : List ℤ) (w' d' : List ℕ) (v' : List ℤ) : Type 0 where
  pub run : (t : Table) → Encodes t c w d v → Encodes (f t) c w' d' v'

pub record ChangesAs {A N : Type 0} (numbers_of : A → N) (n : N) (f : A → Table → Table) (c : Cursor) (w d : List ℕ) (v : List ℤ) (w' d' : List ℕ) (v' : List ℤ) : Type 0 where
  pub of : (x : A) → n ≡ numbers_of x → Changes (f x) c w d v w' d' v'

-- the numbers of a row
abbrev pub numbers : Row → Numbers
numbers x = record { kind = kind_of x; target = target_of x; flags = flags_of x; name = row_name x; first = (span_of x).first; count = (span_of x).count; extent = extent_of x }

-- the declaration that one of the code means
abbrev pub declaration : Declaration → MeantDeclaration
declaration x = record { storage = storage x.storage; type = x.ty; name = x.name }

-- A number read from a slice is what f says of whatever table the slice holds.
pub record WordIs (f : Table → ℕ) (w : List ℕ) (r : ℕ) : Type 0 where
  pub of : (t : Table) → InWords t w → r ≡ f t

pub record WideIs (f : Table → ℕ) (d : List ℕ) (r : ℕ) : Type 0 where
  pub of : (t : Table) → InWides t d → r ≡ f t

pub record SignedIs (f : Table → ℤ) (v : List ℤ) (r : ℤ) : Type 0 where
  pub of : (t : Table) → InSigneds t v → r ≡ f t

-- A declaration read from a slice means the one that f says of whatever table the slice holds.
pub record DeclarationIs (f : Table → MeantDeclaration) (w : List ℕ) (r : Declaration) : Type 0 where
  pub of : (t : Table) → InWords t w → declaration r ≡ f t

-- k is the number at a place, 0 past the end
pub record Peek (xs : List ℕ) (at k : ℕ) : Type 0 where
  pub is : k ≡ get_or xs at 0

-- r is a number of entry i of a region: z past the entries that may be
pub record Entry {X : Type 0} (start columns limit : ℕ) (xs : List X) (i column : ℕ) (z r : X) : Type 0 where
  pub there : i < limit → r ≡ get_or xs (start + (columns * i + column)) z
  pub past : limit ≤ i → r ≡ z

-- One entry more than there are, up to a limit: else 27 at the token not yet read.
abbrev pub OneMore : ℕ → ℕ → ℕ → Result (Unit {0}) Refusal → Type 0
OneMore limit count at (Ok _) = count < limit
OneMore limit count at (Err e) = (limit ≤ count) × (e ≡ record { reason = LimitPassed; at = at })

-- The first number of entry i is set, where there is one.
pub record FirstSet (start columns count i row : ℕ) (w w' : List ℕ) : Type 0 where
  pub there : i < count → w' ≡ set w (start + columns * i) row
  pub past : count ≤ i → w' ≡ w
