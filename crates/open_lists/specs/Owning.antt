-- What the loops over entries do.
use Rattle.std.specs.Prelude.{◌≡◌, List, ℕ, ◌≤◌, Bool, true, false, ◌&&◌, not, eqb, length, refl}
use Rattle.definition.specs.Table.{Table, Member, Value, Parameter, with_members, with_values, with_parameters}
use Rattle.definition.specs.Types.{changed_from}
use Rattle.definition.specs.Composite.{with_row, is_field}
use Rattle.definition.specs.Enumeration as Enumeration
use Rattle.table.specs.Held.{no_member, no_value, no_parameter, Counts, InWords, Room}
use Rattle.table.specs.declared.Cursor.{Cursor}

-- One kind of entries of a table: which they are, the table with others, an entry past the last, how many the cursor counts, whether one carries a row, and one with another row.
pub record Kind (E : Type 0) : Type 0 where
  pub of : Table → List E
  pub with : Table → List E → Table
  pub blank : E
  pub count : Cursor → ℕ
  pub carries : E → ℕ → Bool
  pub with_row : E → ℕ → E
  pub put : (t : Table) (es : List E) → of (with t es) ≡ es
  pub again : (t : Table) (es fs : List E) → with (with t es) fs ≡ with t fs
  pub same : (t : Table) → with t (of t) ≡ t
  pub counts : (t : Table) (c : Cursor) → Counts t c → count c ≡ length (of t)
  pub few : (c : Cursor) → Room c → count c ≤ 4096

-- members, of which a test says whether they carry a row
abbrev members_by : (Member → ℕ → Bool) → Kind Member
members_by test = record { of = λ t. t.members; with = with_members; blank = no_member; count = λ c. c.members; carries = test; with_row = with_row; put = λ t es. refl; again = λ t es fs. refl; same = λ t. refl; counts = λ t c h. h.members; few = λ c r. r.members }

abbrev pub members : Kind Member
members = members_by (λ e n. eqb e.row n)

abbrev pub zero_widths : Kind Member
zero_widths = members_by (λ e n. eqb e.row n && not (is_field e.width))

abbrev pub values : Kind Value
values = record { of = λ t. t.values; with = with_values; blank = no_value; count = λ c. c.values; carries = λ e n. eqb e.row n; with_row = Enumeration.with_row; put = λ t es. refl; again = λ t es fs. refl; same = λ t. refl; counts = λ t c h. h.values; few = λ c r. r.values }

abbrev pub parameters : Kind Parameter
parameters = record { of = λ t. t.parameters; with = with_parameters; blank = no_parameter; count = λ c. c.parameters; carries = λ e n. eqb e.row n; with_row = λ e n. record { row = n; type = e.type; name = e.name }; put = λ t es. refl; again = λ t es fs. refl; same = λ t. refl; counts = λ t c h. h.parameters; few = λ c r. r.parameters }

-- entries from a number on that carry a row get another
abbrev pub rerowed : {E : Type 0} → Kind E → ℕ → ℕ → ℕ → Table → Table
rerowed k from old row t = k.with t (changed_from (λ e. k.carries e old) (λ e. k.with_row e row) from (k.of t))

-- those of row n, which has so many, get row 0
abbrev pub released : {E : Type 0} → Kind E → ℕ → ℕ → Table → Table
released {E} k n count t = k.with t (elim (eqb count 0) as (λ b. List E) [ true ↦ k.of t | false ↦ changed_from (λ e. k.carries e n) (λ e. k.with_row e 0) 0 (k.of t) ])

-- A test of a slice is what f says of whatever table the slice holds.
pub record Tells (f : Table → Bool) (w : List ℕ) (r : Bool) : Type 0 where
  pub of : (t : Table) → InWords t w → r ≡ f t

-- A number that was counted is what f says of whatever table w holds, with as many entries as the cursor counts.
pub record Counted (f : Table → ℕ) (c : Cursor) (w : List ℕ) (r : ℕ) : Type 0 where
  pub of : (t : Table) → InWords t w → Counts t c → r ≡ f t
