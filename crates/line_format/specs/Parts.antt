-- The words of a line from the numbers of the table.
use Rattle.std.specs.Prelude.{Bool, true, false, List, [], ◌∷◌, ℕ, ◌/◌, ◌%◌, eqb, ℤ}
use Rattle.std.proofs.Math.Option.{Option, none, some}
use Rattle.definition.specs.Text.{Bytes, bytes}
use Rattle.definition.specs.RowKind.{void_kind, int_kind, float_kind, bool_kind, pointer_kind, array_kind, struct_kind, union_kind, enum_kind, function_kind, typedef_kind, qualified_kind}
use Rattle.definition.specs.Table.{Member as MeantMember, Value, Parameter}
use Rattle.definition.specs.Listing.{decimal, dash, or_dash, name_word, sign_word, dots, letters}
use Rattle.lemmas.specs.Options.{option}
use Rattle.words.specs.Meaning.{qualifiers_in}
use Rattle.size_align.specs.declared.Size.{Size}
use Rattle.size_align.specs.declared.Size.TheVariants.{Known, Big, Unknown}
use Rattle.table.specs.declared.Numbers.{Numbers}
use Rattle.line_format.specs.declared.Member.{Member}

-- a flag is 0 or it is set
abbrev pub is_set : ℕ → Bool
is_set flag = elim (eqb flag 0) [ true ↦ false | false ↦ true ]

abbrev pub some_if : ℕ → ℕ → Option ℕ
some_if flag x = elim (eqb flag 0) [ true ↦ none | false ↦ some x ]

abbrev pub size_bytes : Size → Bytes
size_bytes (Known s) = decimal s
size_bytes Big = bytes "big"
size_bytes Unknown = dash

-- the one that goes with a kind, or the last
abbrev pub chosen : {A : Type 0} → ℕ → List (ℕ × A) → A → A
chosen kind [] z = z
chosen kind (x ∷ xs) z = elim (eqb kind x.0) [ true ↦ x.1 | false ↦ chosen kind xs z ]

-- the word for a kind
unfoldable pub kind_bytes : ℕ → Bytes
kind_bytes kind = chosen kind (
    (void_kind, bytes "void")
    ∷ (int_kind, bytes "int")
    ∷ (float_kind, bytes "float")
    ∷ (bool_kind, bytes "bool")
    ∷ (pointer_kind, bytes "pointer")
    ∷ (array_kind, bytes "array")
    ∷ (struct_kind, bytes "struct")
    ∷ (union_kind, bytes "union")
    ∷ (enum_kind, bytes "enum")
    ∷ (function_kind, bytes "function")
    ∷ (typedef_kind, bytes "typedef")
    ∷ []) (bytes "qualified")

-- what follows the alignment, by kind
unfoldable pub details_of : Bytes → Numbers → List Bytes
details_of text x = chosen x.kind (
    (void_kind, [])
    ∷ (float_kind, [])
    ∷ (bool_kind, [])
    ∷ (int_kind, sign_word (is_set x.flags) ∷ [])
    ∷ (pointer_kind, decimal x.target ∷ [])
    ∷ (array_kind, decimal x.target ∷ or_dash (some_if x.flags x.extent) ∷ [])
    ∷ (function_kind, or_dash (some_if (x.flags % 2) x.target) ∷ dots (is_set (x.flags / 2)) ∷ [])
    ∷ (typedef_kind, decimal x.target ∷ name_word text x.name ∷ [])
    ∷ (qualified_kind, decimal x.target ∷ letters (qualifiers_in x.flags) ∷ [])
    ∷ []) (name_word text x.name ∷ [])

-- entries of their numbers; no line tells an entry's row
abbrev pub member_of : Member → MeantMember
member_of x = record { row = 0; type = x.ty; name = x.name; width = option x.width; offset = x.offset; first_bit = x.bit }

abbrev pub value_of : ℤ → ℕ → Value
value_of value name = record { row = 0; name = name; value = value }

abbrev pub parameter_of : ℕ → ℕ → Parameter
parameter_of type name = record { row = 0; type = type; name = name }
