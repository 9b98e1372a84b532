-- The refusals of document 01, by number. The comment is the table's own "when".
use Rattle.std.specs.Prelude.{ℕ}

-- model not 0 to 2, or a lent table shorter than its limit; offset 0
abbrev pub bad_call : ℕ
bad_call = 1

-- text over 32,768 bytes; offset 0
abbrev pub text_too_long : ℕ
text_too_long = 2

-- byte above 127; the first such
abbrev pub not_ascii : ℕ
not_ascii = 3

-- a # line that `object_like_macro` would keep; at #
abbrev pub macro_line : ℕ
macro_line = 4

-- comment, attribute parenthesis or string not closed
abbrev pub not_closed : ℕ
not_closed = 5

-- malformed number; empty, unclosed or bad character constant
abbrev pub bad_literal : ℕ
bad_literal = 6

-- byte outside the token set
abbrev pub stray_byte : ℕ
stray_byte = 7

-- exact value outside -2^63 to 2^63 - 1; at the literal, operator or enumerator name
abbrev pub out_of_range : ℕ
out_of_range = 8

-- depth above 64
abbrev pub too_deep : ℕ
too_deep = 9

-- a needed mark, closing brace or enumerator name is missing
abbrev pub missing_mark : ℕ
missing_mark = 10

-- type words that `combine` or `specifiers` refuses
abbrev pub bad_type_words : ℕ
bad_type_words = 11

-- word is no known type
abbrev pub unknown_type : ℕ
unknown_type = 12

-- layout attribute among specifiers
abbrev pub layout_attribute : ℕ
layout_attribute = 13

-- name, tag or field missing
abbrev pub missing_name : ℕ
missing_name = 14

-- typedef name given another type
abbrev pub typedef_changed : ℕ
typedef_changed = 15

-- array of void, function returning array or function, void parameter
abbrev pub impossible_type : ℕ
impossible_type = 16

-- storage class on a member
abbrev pub member_storage : ℕ
member_storage = 17

-- bound negative or `*`
abbrev pub bad_bound : ℕ
bad_bound = 18

-- bit-field width outside 0 to 64
abbrev pub bad_width : ℕ
bad_width = 19

-- member size unknown, unless an unsized array is last
abbrev pub unknown_size : ℕ
unknown_size = 20

-- size above 4,294,967,295
abbrev pub record_too_large : ℕ
record_too_large = 21

-- division by zero, any arm; at the operator
abbrev pub division_by_zero : ℕ
division_by_zero = 22

-- no constant here
abbrev pub no_constant : ℕ
no_constant = 23

-- `declaration` finds more than one name, or a token after its declaration
abbrev pub not_one_declaration : ℕ
not_one_declaration = 24

-- enum with fixed type
abbrev pub fixed_enum : ℕ
fixed_enum = 25

-- a size, a bit count or the end of a struct bit-field's unit in layout passes 2^64 - 1
abbrev pub layout_overflow : ℕ
layout_overflow = 26

-- a limit would be passed; at the next token not yet read
abbrev pub limit_passed : ℕ
limit_passed = 27
