-- What bounds the numbers of a table while a text is read. Assumes nothing.
use mathlib.Core.Path.{◌≡◌}
use mathlib.Core.Bool.{true}
use mathlib.Core.List.{List}
use Prim.Native.Nat.{ℕ, ◌^◌, ◌≤◌, ◌<◌}
use lib.ListN.{length}
use Rattle.definition.specs.Limit.{max_rows}
use Rattle.definition.specs.Range.{in_range}
use Rattle.definition.specs.Row.{Row, void, int, float, bool, pointer, array, composite, enumeration, function, typedef, qualified, or_zero}
use Rattle.definition.specs.Table.{Member, Value, Table}
use Rattle.definition_laws.proofs.Each.{Each}

-- an array's bound
unfoldable pub bound_in : Row → ℕ
bound_in void = 0
bound_in (int s g) = 0
bound_in (float s) = 0
bound_in bool = 0
bound_in (pointer r) = 0
bound_in (array r b) = or_zero b
bound_in (composite u w s e) = 0
bound_in (enumeration w s e) = 0
bound_in (function r v e) = 0
bound_in (typedef w r) = 0
bound_in (qualified r q) = 0

abbrev pub BoundFits : Row → Type 0
BoundFits r = bound_in r < 2 ^ 64

-- where a member stands is known once it carries a row; before that it carries the mark of its list
pub record StandsBelow (limit : ℕ) (e : Member) : Type 0 where
  pub offset : e.offset < limit
  pub first_bit : e.first_bit < limit

abbrev pub Stands : Member → Type 0
Stands = StandsBelow (2 ^ 64)

pub record MemberFits (e : Member) : Type 0 where
  pub width : or_zero e.width ≤ 64
  pub stands : e.row < max_rows → Stands e

abbrev pub ValueFits : Value → Type 0
ValueFits v = in_range v.value ≡ true

-- over the lists, and not the table, so that its log plays no part
pub record Whole (rs : List Row) (ms : List Member) (vs : List Value) : Type 0 where
  pub few : length rs ≤ max_rows
  pub rows : Each (λ i r. BoundFits r) 0 rs
  pub members : Each (λ i e. MemberFits e) 0 ms
  pub values : Each (λ i v. ValueFits v) 0 vs

abbrev pub Fits : Table → Type 0
Fits t = Whole t.rows t.members t.values
