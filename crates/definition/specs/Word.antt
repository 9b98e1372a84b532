-- What kind a word is, by its spelling: C11 6.4.1 with the spellings of GNU C (`normalize`, `is_keyword`), the names that `builtin` knows,
-- and the words that introduce an attribute (`is_attribute_introducer`).
use Rattle.std.specs.Prelude.{true, false, List, [], ◌∷◌, ◌++◌, ℕ}
use Prim.Native.String.{String}
use Rattle.definition.specs.Text.{Bytes, bytes, same}
use Rattle.definition.specs.Kind as kind

pub record Spelled : Type 0 where
  pub spelling : Bytes
  pub kind : ℕ

abbrev spelled : String → ℕ → Spelled
spelled s k = record { spelling = bytes s; kind = k }

-- an attribute is an attribute word with what stands in the parentheses after it; without parentheses the word counts for nothing
unfoldable pub attribute_words : List Spelled
attribute_words =
    spelled "__attribute__" kind.attribute ∷ spelled "__attribute" kind.attribute ∷ spelled "__declspec" kind.attribute
    ∷ spelled "__asm__" kind.attribute ∷ spelled "__asm" kind.attribute ∷ spelled "asm" kind.attribute ∷ []

unfoldable pub keywords : List Spelled
keywords =
    spelled "void" kind.void_word ∷ spelled "char" kind.char_word ∷ spelled "short" kind.short_word ∷ spelled "int" kind.int_word
    ∷ spelled "long" kind.long_word ∷ spelled "float" kind.float_word ∷ spelled "double" kind.double_word
    ∷ spelled "signed" kind.signed_word ∷ spelled "__signed" kind.signed_word ∷ spelled "__signed__" kind.signed_word
    ∷ spelled "unsigned" kind.unsigned_word ∷ spelled "__unsigned" kind.unsigned_word ∷ spelled "__unsigned__" kind.unsigned_word
    ∷ spelled "_Bool" kind.bool_word
    ∷ spelled "_Complex" kind.complex_word ∷ spelled "__complex__" kind.complex_word
    ∷ spelled "struct" kind.struct_word ∷ spelled "union" kind.union_word ∷ spelled "enum" kind.enum_word
    ∷ spelled "const" kind.const_word ∷ spelled "__const" kind.const_word ∷ spelled "__const__" kind.const_word
    ∷ spelled "volatile" kind.volatile_word ∷ spelled "__volatile" kind.volatile_word ∷ spelled "__volatile__" kind.volatile_word
    ∷ spelled "restrict" kind.restrict_word ∷ spelled "__restrict" kind.restrict_word ∷ spelled "__restrict__" kind.restrict_word
    ∷ spelled "_Atomic" kind.atomic_word
    ∷ spelled "typedef" kind.typedef_word ∷ spelled "extern" kind.extern_word ∷ spelled "static" kind.static_word
    ∷ spelled "auto" kind.auto_word ∷ spelled "register" kind.register_word
    ∷ spelled "inline" kind.inline_word ∷ spelled "__inline" kind.inline_word ∷ spelled "__inline__" kind.inline_word
    ∷ spelled "_Noreturn" kind.noreturn_word ∷ spelled "_Thread_local" kind.thread_local_word
    ∷ spelled "__extension__" kind.extension_word ∷ spelled "sizeof" kind.sizeof_word ∷ []

unfoldable pub builtin_names : List Spelled
builtin_names =
    spelled "int8_t" kind.int8_name ∷ spelled "int16_t" kind.int16_name ∷ spelled "int32_t" kind.int32_name ∷ spelled "int64_t" kind.int64_name
    ∷ spelled "uint8_t" kind.uint8_name ∷ spelled "uint16_t" kind.uint16_name ∷ spelled "uint32_t" kind.uint32_name ∷ spelled "uint64_t" kind.uint64_name
    ∷ spelled "intmax_t" kind.intmax_name ∷ spelled "uintmax_t" kind.uintmax_name
    ∷ spelled "intptr_t" kind.intptr_name ∷ spelled "ssize_t" kind.ssize_name ∷ spelled "ptrdiff_t" kind.ptrdiff_name
    ∷ spelled "uintptr_t" kind.uintptr_name ∷ spelled "size_t" kind.size_name
    ∷ spelled "wchar_t" kind.wchar_name ∷ spelled "char8_t" kind.char8_name ∷ spelled "char16_t" kind.char16_name ∷ spelled "char32_t" kind.char32_name
    ∷ spelled "bool" kind.bool_name ∷ []

-- every spelling that is more than a name
unfoldable pub words : List Spelled
words = attribute_words ++ keywords ++ builtin_names

-- the kind of a spelling in a list, `identifier` where it is not there
unfoldable pub kind_among : List Spelled → Bytes → ℕ
kind_among [] w = kind.identifier
kind_among (e ∷ es) w = elim (same e.spelling w) [ true ↦ e.kind | false ↦ kind_among es w ]

unfoldable pub kind_of : Bytes → ℕ
kind_of w = kind_among words w
