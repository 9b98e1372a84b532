-- The table of words as the code keeps it: a word's slot, and the spelling of each slot. Assumes nothing.
use Rattle.std.specs.Prelude.{List, [], ◌∷◌, ℕ, ◌+◌, ◌-◌, ◌*◌, ◌/◌, ◌%◌, length, get_or}
use Rattle.definition.specs.Text.{Bytes, bytes, byte_at}

-- no two words have the same slot: by length, first, middle and last byte
unfoldable pub slot_of : Bytes → ℕ
slot_of w = (33 * (length w % 256) + 32 * byte_at w 0 + 691 * byte_at w (length w / 2) + 106 * byte_at w (length w - 1)) / 8 % 128

-- what stands in an empty slot: no word, and longer than each
unfoldable pub none : Bytes
none = 0 ∷ 0 ∷ 0 ∷ 0 ∷ 0 ∷ 0 ∷ 0 ∷ 0 ∷ 0 ∷ 0 ∷ 0 ∷ 0 ∷ 0 ∷ 0 ∷ 0 ∷ []

unfoldable pub spellings : List Bytes
spellings =
    bytes "intmax_t" ∷ bytes "asm" ∷ bytes "void" ∷ none ∷ none ∷ none ∷ bytes "_Thread_local" ∷ bytes "union" ∷ none ∷ bytes "__attribute__"
    ∷ bytes "__signed" ∷ none ∷ none ∷ bytes "__const" ∷ none ∷ bytes "__restrict__" ∷ none ∷ none ∷ none ∷ bytes "ssize_t"
    ∷ none ∷ bytes "uint8_t" ∷ none ∷ none ∷ none ∷ bytes "__volatile" ∷ none ∷ bytes "_Bool" ∷ bytes "register" ∷ bytes "_Complex"
    ∷ none ∷ none ∷ bytes "char8_t" ∷ bytes "float" ∷ bytes "int8_t" ∷ bytes "bool" ∷ none ∷ none ∷ none ∷ none ∷ bytes "static"
    ∷ bytes "__const__" ∷ none ∷ bytes "uint32_t" ∷ bytes "_Atomic" ∷ bytes "__signed__" ∷ bytes "uint64_t" ∷ bytes "signed"
    ∷ none ∷ none ∷ bytes "long" ∷ none ∷ bytes "wchar_t" ∷ bytes "__declspec" ∷ bytes "char16_t" ∷ none ∷ none ∷ bytes "__extension__"
    ∷ none ∷ bytes "__volatile__" ∷ none ∷ bytes "char" ∷ bytes "const" ∷ bytes "__unsigned" ∷ bytes "sizeof" ∷ bytes "uintmax_t"
    ∷ bytes "enum" ∷ none ∷ bytes "uintptr_t" ∷ none ∷ none ∷ bytes "__inline" ∷ bytes "typedef" ∷ bytes "__restrict" ∷ bytes "int16_t"
    ∷ none ∷ none ∷ none ∷ bytes "int" ∷ none ∷ bytes "__asm__" ∷ none ∷ none ∷ bytes "ptrdiff_t" ∷ none ∷ bytes "short" ∷ bytes "volatile"
    ∷ none ∷ bytes "__unsigned__" ∷ none ∷ bytes "__attribute" ∷ none ∷ none ∷ none ∷ bytes "__complex__" ∷ bytes "struct"
    ∷ bytes "restrict" ∷ none ∷ bytes "unsigned" ∷ bytes "char32_t" ∷ bytes "inline" ∷ none ∷ bytes "_Noreturn" ∷ none ∷ none
    ∷ bytes "intptr_t" ∷ none ∷ none ∷ none ∷ none ∷ none ∷ bytes "__asm" ∷ none ∷ none ∷ bytes "extern" ∷ bytes "double"
    ∷ none ∷ none ∷ bytes "auto" ∷ bytes "int32_t" ∷ none ∷ bytes "size_t" ∷ bytes "int64_t" ∷ none ∷ none ∷ bytes "__inline__"
    ∷ bytes "uint16_t" ∷ none ∷ []

unfoldable pub spelling_of : ℕ → Bytes
spelling_of h = get_or spellings h none
