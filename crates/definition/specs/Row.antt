-- Type rows (`Type` in 001), and the numbers that a row is.
use Rattle.std.specs.Prelude.{Bool, true, false, ℕ, ◌+◌, ◌*◌}
use Rattle.std.proofs.Math.Option.{Option, none, some}
use Rattle.definition.specs.Name.{no_name}
use Rattle.definition.specs.RowKind.{void_kind, int_kind, float_kind, bool_kind, pointer_kind, array_kind, struct_kind, union_kind, enum_kind, function_kind, typedef_kind, qualified_kind}

pub record Qualifiers : Type 0 where
  pub const : Bool
  pub volatile : Bool
  pub restrict : Bool

abbrev pub unqualified : Qualifiers
unqualified = record { const = false; volatile = false; restrict = false }

-- Where a row's members, values or parameters stand: from entry number `first` on, the first `count` entries that carry the row.
pub record Span : Type 0 where
  pub first : ℕ
  pub count : ℕ

abbrev pub nothing : Span
nothing = record { first = 0; count = 0 }

pub data Row : Type 0 where
  void : Row
  int : ℕ → Bool → Row  -- bytes, signed
  float : ℕ → Row  -- bytes
  bool : Row
  pointer : ℕ → Row  -- target row
  array : ℕ → Option ℕ → Row  -- element row, bound
  composite : Bool → ℕ → Option ℕ → Span → Row  -- a union; tag; size, where it has a body; members
  enumeration : ℕ → ℕ → Span → Row  -- tag; bytes; values
  function : Option ℕ → Bool → Span → Row  -- return row, none for void; `...`; parameters
  typedef : ℕ → ℕ → Row  -- name; row
  qualified : ℕ → Qualifiers → Row  -- row

abbrev pub bit : Bool → ℕ
bit true = 1
bit false = 0

abbrev pub or_zero : Option ℕ → ℕ
or_zero none = 0
or_zero (some n) = n

abbrev pub is_some : Option ℕ → Bool
is_some none = false
is_some (some n) = true

-- c is 1, v is 2, r is 4
unfoldable pub qualifier_bits : Qualifiers → ℕ
qualifier_bits q = bit q.const + 2 * bit q.volatile + 4 * bit q.restrict

abbrev pub composite_kind : Bool → ℕ
composite_kind true = union_kind
composite_kind false = struct_kind

-- The numbers of a row. Its kind:
unfoldable pub kind_of : Row → ℕ
kind_of void = void_kind
kind_of (int s g) = int_kind
kind_of (float s) = float_kind
kind_of bool = bool_kind
kind_of (pointer r) = pointer_kind
kind_of (array r b) = array_kind
kind_of (composite u w s e) = composite_kind u
kind_of (enumeration w s e) = enum_kind
kind_of (function r v e) = function_kind
kind_of (typedef w r) = typedef_kind
kind_of (qualified r q) = qualified_kind

-- the row that it names: target, element, return type, or what a typedef or qualifiers stand on
unfoldable pub target_of : Row → ℕ
target_of void = 0
target_of (int s g) = 0
target_of (float s) = 0
target_of bool = 0
target_of (pointer r) = r
target_of (array r b) = r
target_of (composite u w s e) = 0
target_of (enumeration w s e) = 0
target_of (function r v e) = or_zero r
target_of (typedef w r) = r
target_of (qualified r q) = r

-- its flags: signed; has a bound; has a size; 1 for a return type and 2 for `...`; the qualifiers
unfoldable pub flags_of : Row → ℕ
flags_of void = 0
flags_of (int s g) = bit g
flags_of (float s) = 0
flags_of bool = 0
flags_of (pointer r) = 0
flags_of (array r b) = bit (is_some b)
flags_of (composite u w s e) = bit (is_some s)
flags_of (enumeration w s e) = 0
flags_of (function r v e) = bit (is_some r) + 2 * bit v
flags_of (typedef w r) = 0
flags_of (qualified r q) = qualifier_bits q

-- its tag or name
unfoldable pub row_name : Row → ℕ
row_name void = no_name
row_name (int s g) = no_name
row_name (float s) = no_name
row_name bool = no_name
row_name (pointer r) = no_name
row_name (array r b) = no_name
row_name (composite u w s e) = w
row_name (enumeration w s e) = w
row_name (function r v e) = no_name
row_name (typedef w r) = w
row_name (qualified r q) = no_name

-- where its entries stand
unfoldable pub span_of : Row → Span
span_of void = nothing
span_of (int s g) = nothing
span_of (float s) = nothing
span_of bool = nothing
span_of (pointer r) = nothing
span_of (array r b) = nothing
span_of (composite u w s e) = e
span_of (enumeration w s e) = e
span_of (function r v e) = e
span_of (typedef w r) = nothing
span_of (qualified r q) = nothing

-- its 64-bit number: bytes, or an array's bound
unfoldable pub extent_of : Row → ℕ
extent_of void = 0
extent_of (int s g) = s
extent_of (float s) = s
extent_of bool = 0
extent_of (pointer r) = 0
extent_of (array r b) = or_zero b
extent_of (composite u w s e) = or_zero s
extent_of (enumeration w s e) = s
extent_of (function r v e) = 0
extent_of (typedef w r) = 0
extent_of (qualified r q) = 0
