-- The kinds of tokens, each with its number in the definition, and all kinds of type rows in order.
use Rattle.std.specs.Prelude.{List, [], ◌∷◌, ℕ, map}
use Rattle.definition.specs.Kind.{end, number, text, attribute, identifier, int8_name, int16_name, int32_name, int64_name, uint8_name, uint16_name, uint32_name, uint64_name, intmax_name, uintmax_name, intptr_name, ssize_name, ptrdiff_name, uintptr_name, size_name, wchar_name, char8_name, char16_name, char32_name, bool_name, void_word, char_word, short_word, int_word, long_word, float_word, double_word, signed_word, unsigned_word, bool_word, complex_word, struct_word, union_word, enum_word, const_word, volatile_word, restrict_word, atomic_word, typedef_word, extern_word, static_word, auto_word, register_word, inline_word, noreturn_word, thread_local_word, extension_word, sizeof_word, ellipsis, shift_left, shift_right, less_equal, greater_equal, equal_equal, not_equal, and_and, or_or, open_paren, close_paren, open_bracket, close_bracket, open_brace, close_brace, star, comma, semicolon, colon, question, equals, plus, minus, tilde, bang, slash, percent, ampersand, caret, bar, less, greater, dot}
use Rattle.definition.specs.RowKind.{void_kind, int_kind, float_kind, bool_kind, pointer_kind, array_kind, struct_kind, union_kind, enum_kind, function_kind, typedef_kind, qualified_kind}
use Rattle.encoding.specs.declared.token_kinds.TokenKind.{TokenKind}
use Rattle.encoding.specs.declared.token_kinds.TokenKind.TheVariants.{End, Number, Text, Attribute, Identifier, Int8Name, Int16Name, Int32Name, Int64Name, Uint8Name, Uint16Name, Uint32Name, Uint64Name, IntmaxName, UintmaxName, IntptrName, SsizeName, PtrdiffName, UintptrName, SizeName, WcharName, Char8Name, Char16Name, Char32Name, BoolName, VoidWord, CharWord, ShortWord, IntWord, LongWord, FloatWord, DoubleWord, SignedWord, UnsignedWord, BoolWord, ComplexWord, StructWord, UnionWord, EnumWord, ConstWord, VolatileWord, RestrictWord, AtomicWord, TypedefWord, ExternWord, StaticWord, AutoWord, RegisterWord, InlineWord, NoreturnWord, ThreadLocalWord, ExtensionWord, SizeofWord, Ellipsis, ShiftLeft, ShiftRight, LessEqual, GreaterEqual, EqualEqual, NotEqual, AndAnd, OrOr, OpenParen, CloseParen, OpenBracket, CloseBracket, OpenBrace, CloseBrace, Star, Comma, Semicolon, Colon, Question, Equals, Plus, Minus, Tilde, Bang, Slash, Percent, Ampersand, Caret, Bar, Less, Greater, Dot, Other}

abbrev pub kind_number : TokenKind → ℕ
kind_number End = end
kind_number Number = number
kind_number Text = text
kind_number Attribute = attribute
kind_number Identifier = identifier
kind_number Int8Name = int8_name
kind_number Int16Name = int16_name
kind_number Int32Name = int32_name
kind_number Int64Name = int64_name
kind_number Uint8Name = uint8_name
kind_number Uint16Name = uint16_name
kind_number Uint32Name = uint32_name
kind_number Uint64Name = uint64_name
kind_number IntmaxName = intmax_name
kind_number UintmaxName = uintmax_name
kind_number IntptrName = intptr_name
kind_number SsizeName = ssize_name
kind_number PtrdiffName = ptrdiff_name
kind_number UintptrName = uintptr_name
kind_number SizeName = size_name
kind_number WcharName = wchar_name
kind_number Char8Name = char8_name
kind_number Char16Name = char16_name
kind_number Char32Name = char32_name
kind_number BoolName = bool_name
kind_number VoidWord = void_word
kind_number CharWord = char_word
kind_number ShortWord = short_word
kind_number IntWord = int_word
kind_number LongWord = long_word
kind_number FloatWord = float_word
kind_number DoubleWord = double_word
kind_number SignedWord = signed_word
kind_number UnsignedWord = unsigned_word
kind_number BoolWord = bool_word
kind_number ComplexWord = complex_word
kind_number StructWord = struct_word
kind_number UnionWord = union_word
kind_number EnumWord = enum_word
kind_number ConstWord = const_word
kind_number VolatileWord = volatile_word
kind_number RestrictWord = restrict_word
kind_number AtomicWord = atomic_word
kind_number TypedefWord = typedef_word
kind_number ExternWord = extern_word
kind_number StaticWord = static_word
kind_number AutoWord = auto_word
kind_number RegisterWord = register_word
kind_number InlineWord = inline_word
kind_number NoreturnWord = noreturn_word
kind_number ThreadLocalWord = thread_local_word
kind_number ExtensionWord = extension_word
kind_number SizeofWord = sizeof_word
kind_number Ellipsis = ellipsis
kind_number ShiftLeft = shift_left
kind_number ShiftRight = shift_right
kind_number LessEqual = less_equal
kind_number GreaterEqual = greater_equal
kind_number EqualEqual = equal_equal
kind_number NotEqual = not_equal
kind_number AndAnd = and_and
kind_number OrOr = or_or
kind_number OpenParen = open_paren
kind_number CloseParen = close_paren
kind_number OpenBracket = open_bracket
kind_number CloseBracket = close_bracket
kind_number OpenBrace = open_brace
kind_number CloseBrace = close_brace
kind_number Star = star
kind_number Comma = comma
kind_number Semicolon = semicolon
kind_number Colon = colon
kind_number Question = question
kind_number Equals = equals
kind_number Plus = plus
kind_number Minus = minus
kind_number Tilde = tilde
kind_number Bang = bang
kind_number Slash = slash
kind_number Percent = percent
kind_number Ampersand = ampersand
kind_number Caret = caret
kind_number Bar = bar
kind_number Less = less
kind_number Greater = greater
kind_number Dot = dot
kind_number (Other k) = k.number

-- the kinds of a column of tokens
abbrev pub kind_numbers : List TokenKind → List ℕ
kind_numbers ks = map kind_number ks

-- all kinds of type rows
abbrev pub row_kinds : List ℕ
row_kinds = void_kind ∷ int_kind ∷ float_kind ∷ bool_kind ∷ pointer_kind ∷ array_kind ∷ struct_kind ∷ union_kind ∷ enum_kind ∷ function_kind ∷ typedef_kind ∷ qualified_kind ∷ []
