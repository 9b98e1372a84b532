-- The listing of a table, and the line of a refusal, in bytes.
use Rattle.std.specs.Prelude.{List, [], ◌∷◌, ◌++◌, Bool, true, false, ℕ, zero, suc, ◌+◌, ◌/◌, ◌%◌, ◌^◌, eqb, ltb, ℤ, pos, negsuc, take, drop}
use Rattle.std.proofs.Math.Option.{Option, none, some}
use Prim.Native.String.{String}
use Prim.Native.Char.{code}
use Rattle.definition.specs.Text.{Bytes, bytes}
use Rattle.definition.specs.Byte.{line_feed, space}
use Rattle.definition.specs.Name.{no_name, offset_of, length_of}
use Rattle.definition.specs.Model.{Model, lp64, model_of}
use Rattle.definition.specs.Row.{Row, void, int, float, bool, pointer, array, composite, enumeration, function, typedef, qualified, Qualifiers}
use Rattle.definition.specs.Table.{Member, Value, Parameter, Declaration, Storage, noStorage, typedefStorage, externStorage, staticStorage, autoStorage, Table}
use Rattle.definition.specs.Types.{members_of, values_of, parameters_of}
use Rattle.definition.specs.Size.{size_of}
use Rattle.definition.specs.Align.{align_of}
use Rattle.definition.specs.Lent.{flat}
use Rattle.definition.specs.Entry.{Entry, Outcome, accepted, rejected, outcome}

-- ---- words of a line

-- the byte of a digit
abbrev pub digit_byte : ℕ → ℕ
digit_byte d = code "0" + d

-- the digits of n before some others; a number has no more digits than it counts, so n rounds are enough
unfoldable pub digits_before : ℕ → ℕ → Bytes → Bytes
digits_before zero n ds = digit_byte (n % 10) ∷ ds
digits_before (suc f) n ds = elim (ltb n 10) [ true ↦ digit_byte n ∷ ds | false ↦ digits_before f (n / 10) (digit_byte (n % 10) ∷ ds) ]

unfoldable pub decimal : ℕ → Bytes
decimal n = digits_before n n []

unfoldable pub signed_decimal : ℤ → Bytes
signed_decimal (pos n) = decimal n
signed_decimal (negsuc n) = bytes "-" ++ decimal (suc n)

abbrev pub dash : Bytes
dash = bytes "-"

unfoldable pub or_dash : Option ℕ → Bytes
or_dash none = dash
or_dash (some n) = decimal n

-- "size (`-` unknown, `big` above 2^64 - 1)"
unfoldable pub size_word : Option ℕ → Bytes
size_word none = dash
size_word (some s) = elim (ltb s (2 ^ 64)) [ true ↦ decimal s | false ↦ bytes "big" ]

-- "`-` for no name"
unfoldable pub name_word : Bytes → ℕ → Bytes
name_word text n = elim (eqb n no_name) [ true ↦ dash | false ↦ take (length_of n) (drop (offset_of n) text) ]

-- words parted by single spaces
unfoldable pub parted : Bytes → List Bytes → Bytes
parted w [] = w
parted w (v ∷ vs) = w ++ space ∷ parted v vs

-- a line ends with a line feed
unfoldable pub line : Bytes → List Bytes → Bytes
line w vs = parted w vs ++ line_feed ∷ []

-- ---- type lines

abbrev pub letter_if : Bool → String → Bytes
letter_if true s = bytes s
letter_if false s = []

unfoldable pub letters : Qualifiers → Bytes
letters q = letter_if q.const "c" ++ letter_if q.volatile "v" ++ letter_if q.restrict "r"

abbrev pub sign_word : Bool → Bytes
sign_word true = bytes "signed"
sign_word false = bytes "unsigned"

abbrev pub composite_word : Bool → Bytes
composite_word true = bytes "union"
composite_word false = bytes "struct"

-- "then `...` or `.`"
abbrev pub dots : Bool → Bytes
dots true = bytes "..."
dots false = bytes "."

-- the word for a row's kind
unfoldable pub kind_word : Row → Bytes
kind_word void = bytes "void"
kind_word (int s g) = bytes "int"
kind_word (float s) = bytes "float"
kind_word bool = bytes "bool"
kind_word (pointer r) = bytes "pointer"
kind_word (array r b) = bytes "array"
kind_word (composite u w s e) = composite_word u
kind_word (enumeration w s e) = bytes "enum"
kind_word (function r v e) = bytes "function"
kind_word (typedef w r) = bytes "typedef"
kind_word (qualified r q) = bytes "qualified"

-- what follows the alignment
unfoldable pub details : Bytes → Row → List Bytes
details text void = []
details text (int s g) = sign_word g ∷ []
details text (float s) = []
details text bool = []
details text (pointer r) = decimal r ∷ []
details text (array r b) = decimal r ∷ or_dash b ∷ []
details text (composite u w s e) = name_word text w ∷ []
details text (enumeration w s e) = name_word text w ∷ []
details text (function r v e) = or_dash r ∷ dots v ∷ []
details text (typedef w r) = decimal r ∷ name_word text w ∷ []
details text (qualified r q) = decimal r ∷ letters q ∷ []

-- "A type line: row, kind, size .., alignment (`-` none), then" the details
unfoldable pub type_line : Bytes → Model → Table → ℕ → Row → Bytes
type_line text m t n r = line (bytes "type") (decimal n ∷ kind_word r ∷ size_word (size_of m t n) ∷ or_dash (align_of m t n) ∷ details text r)

-- ---- sub-lines

-- "first bit and width (`-` for a plain member)"
abbrev pub bit_words : Option ℕ → ℕ → Bytes × Bytes
bit_words none b = (dash, dash)
bit_words (some w) b = (decimal b, decimal w)

-- "A member line: byte offset, first bit and width .., type row, name or `-`."
unfoldable pub member_line : Bytes → Member → Bytes
member_line text e = line (bytes "member")
    (decimal e.offset ∷ (bit_words e.width e.first_bit).0 ∷ (bit_words e.width e.first_bit).1 ∷ decimal e.type ∷ name_word text e.name ∷ [])

-- "`value NUMBER NAME`, `param ROW NAME`"
unfoldable pub value_line : Bytes → Value → Bytes
value_line text e = line (bytes "value") (signed_decimal e.value ∷ name_word text e.name ∷ [])

unfoldable pub param_line : Bytes → Parameter → Bytes
param_line text e = line (bytes "param") (decimal e.type ∷ name_word text e.name ∷ [])

-- the entries that carry a row, under its line
unfoldable pub sub_lines : Bytes → Table → ℕ → Row → Bytes
sub_lines text t n void = []
sub_lines text t n (int s g) = []
sub_lines text t n (float s) = []
sub_lines text t n bool = []
sub_lines text t n (pointer r) = []
sub_lines text t n (array r b) = []
sub_lines text t n (composite u w s e) = flat (member_line text) (members_of t n e)
sub_lines text t n (enumeration w s e) = flat (value_line text) (values_of t n e)
sub_lines text t n (function r v e) = flat (param_line text) (parameters_of t n e)
sub_lines text t n (typedef w r) = []
sub_lines text t n (qualified r q) = []

-- the rows, numbered from n
unfoldable pub type_lines : Bytes → Model → Table → ℕ → List Row → Bytes
type_lines text m t n [] = []
type_lines text m t n (r ∷ rs) = type_line text m t n r ++ sub_lines text t n r ++ type_lines text m t (suc n) rs

-- ---- declarations

unfoldable pub storage_word : Storage → Bytes
storage_word noStorage = bytes "none"
storage_word typedefStorage = bytes "typedef"
storage_word externStorage = bytes "extern"
storage_word staticStorage = bytes "static"
storage_word autoStorage = bytes "auto"

-- "`decl STORAGE ROW NAME`"
unfoldable pub decl_line : Bytes → Declaration → Bytes
decl_line text d = line (bytes "decl") (storage_word d.storage ∷ decimal d.type ∷ name_word text d.name ∷ [])

-- "type lines with their sub-lines, then declarations"
unfoldable pub listing : Bytes → Model → Table → Bytes
listing text m t = type_lines text m t 0 t.rows ++ flat (decl_line text) t.declarations

-- "A refusal prints `refused NUMBER OFFSET LINE COLUMN` only."
unfoldable pub refused_line : ℕ → ℕ → ℕ → ℕ → Bytes
refused_line n at row column = line (bytes "refused") (decimal n ∷ decimal at ∷ decimal row ∷ decimal column ∷ [])

abbrev pub or_lp64 : Option Model → Model
or_lp64 none = lp64
or_lp64 (some m) = m

-- what is printed of a text under a model's number
unfoldable pub printed_outcome : ℕ → Bytes → Outcome → Bytes
printed_outcome model text (accepted a) = listing text (or_lp64 (model_of model)) a.table
printed_outcome model text (rejected n at row column) = refused_line n at row column

unfoldable pub printed : ℕ → Entry → Bytes → Bytes
printed model entry text = printed_outcome model text (outcome model true entry text)
