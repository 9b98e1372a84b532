-- Kinds of tokens. A word's kind says which keyword it is, in whatever spelling; words from `identifier` to `boolName` are names.
use Rattle.std.specs.Prelude.{Bool, ◌&&◌, ℕ, leb}

-- past the last token
abbrev pub end : ℕ
end = 0

-- a number, or a character constant
abbrev pub number : ℕ
number = 1

-- a string
abbrev pub text : ℕ
text = 2

-- an attribute that changes a layout
abbrev pub attribute : ℕ
attribute = 3

-- any other word: a name
abbrev pub identifier : ℕ
identifier = 4

-- the names that <stdint.h> and its like provide: names too
abbrev pub int8_name : ℕ
int8_name = 5  -- int8_t

abbrev pub int16_name : ℕ
int16_name = 6  -- int16_t

abbrev pub int32_name : ℕ
int32_name = 7  -- int32_t

abbrev pub int64_name : ℕ
int64_name = 8  -- int64_t

abbrev pub uint8_name : ℕ
uint8_name = 9  -- uint8_t

abbrev pub uint16_name : ℕ
uint16_name = 10  -- uint16_t

abbrev pub uint32_name : ℕ
uint32_name = 11  -- uint32_t

abbrev pub uint64_name : ℕ
uint64_name = 12  -- uint64_t

abbrev pub intmax_name : ℕ
intmax_name = 13  -- intmax_t

abbrev pub uintmax_name : ℕ
uintmax_name = 14  -- uintmax_t

abbrev pub intptr_name : ℕ
intptr_name = 15  -- intptr_t

abbrev pub ssize_name : ℕ
ssize_name = 16  -- ssize_t

abbrev pub ptrdiff_name : ℕ
ptrdiff_name = 17  -- ptrdiff_t

abbrev pub uintptr_name : ℕ
uintptr_name = 18  -- uintptr_t

abbrev pub size_name : ℕ
size_name = 19  -- size_t

abbrev pub wchar_name : ℕ
wchar_name = 20  -- wchar_t

abbrev pub char8_name : ℕ
char8_name = 21  -- char8_t

abbrev pub char16_name : ℕ
char16_name = 22  -- char16_t

abbrev pub char32_name : ℕ
char32_name = 23  -- char32_t

abbrev pub bool_name : ℕ
bool_name = 24  -- bool

-- keywords: the words of a type
abbrev pub void_word : ℕ
void_word = 25  -- void

abbrev pub char_word : ℕ
char_word = 26  -- char

abbrev pub short_word : ℕ
short_word = 27  -- short

abbrev pub int_word : ℕ
int_word = 28  -- int

abbrev pub long_word : ℕ
long_word = 29  -- long

abbrev pub float_word : ℕ
float_word = 30  -- float

abbrev pub double_word : ℕ
double_word = 31  -- double

abbrev pub signed_word : ℕ
signed_word = 32  -- signed

abbrev pub unsigned_word : ℕ
unsigned_word = 33  -- unsigned

abbrev pub bool_word : ℕ
bool_word = 34  -- _Bool

abbrev pub complex_word : ℕ
complex_word = 35  -- _Complex

-- keywords: what a tag follows
abbrev pub struct_word : ℕ
struct_word = 36  -- struct

abbrev pub union_word : ℕ
union_word = 37  -- union

abbrev pub enum_word : ℕ
enum_word = 38  -- enum

-- keywords: qualifiers
abbrev pub const_word : ℕ
const_word = 39  -- const

abbrev pub volatile_word : ℕ
volatile_word = 40  -- volatile

abbrev pub restrict_word : ℕ
restrict_word = 41  -- restrict

abbrev pub atomic_word : ℕ
atomic_word = 42  -- _Atomic

-- keywords: storage
abbrev pub typedef_word : ℕ
typedef_word = 43  -- typedef

abbrev pub extern_word : ℕ
extern_word = 44  -- extern

abbrev pub static_word : ℕ
static_word = 45  -- static

abbrev pub auto_word : ℕ
auto_word = 46  -- auto

abbrev pub register_word : ℕ
register_word = 47  -- register

-- keywords: words that say nothing of the type
abbrev pub inline_word : ℕ
inline_word = 48  -- inline

abbrev pub noreturn_word : ℕ
noreturn_word = 49  -- _Noreturn

abbrev pub thread_local_word : ℕ
thread_local_word = 50  -- _Thread_local

abbrev pub extension_word : ℕ
extension_word = 51  -- __extension__

-- the last keyword
abbrev pub sizeof_word : ℕ
sizeof_word = 52  -- sizeof

-- marks, longest first
abbrev pub ellipsis : ℕ
ellipsis = 53  -- ...

abbrev pub shift_left : ℕ
shift_left = 54  -- <<

abbrev pub shift_right : ℕ
shift_right = 55  -- >>

abbrev pub less_equal : ℕ
less_equal = 56  -- <=

abbrev pub greater_equal : ℕ
greater_equal = 57  -- >=

abbrev pub equal_equal : ℕ
equal_equal = 58  -- ==

abbrev pub not_equal : ℕ
not_equal = 59  -- !=

abbrev pub and_and : ℕ
and_and = 60  -- &&

abbrev pub or_or : ℕ
or_or = 61  -- ||

abbrev pub open_paren : ℕ
open_paren = 62  -- (

abbrev pub close_paren : ℕ
close_paren = 63  -- )

abbrev pub open_bracket : ℕ
open_bracket = 64  -- [

abbrev pub close_bracket : ℕ
close_bracket = 65  -- ]

abbrev pub open_brace : ℕ
open_brace = 66  -- {

abbrev pub close_brace : ℕ
close_brace = 67  -- }

abbrev pub star : ℕ
star = 68  -- *

abbrev pub comma : ℕ
comma = 69  -- ,

abbrev pub semicolon : ℕ
semicolon = 70  -- ;

abbrev pub colon : ℕ
colon = 71  -- :

abbrev pub question : ℕ
question = 72  -- ?

abbrev pub equals : ℕ
equals = 73  -- =

abbrev pub plus : ℕ
plus = 74  -- +

abbrev pub minus : ℕ
minus = 75  -- -

abbrev pub tilde : ℕ
tilde = 76  -- ~

abbrev pub bang : ℕ
bang = 77  -- !

abbrev pub slash : ℕ
slash = 78  -- /

abbrev pub percent : ℕ
percent = 79  -- %

abbrev pub ampersand : ℕ
ampersand = 80  -- &

abbrev pub caret : ℕ
caret = 81  -- ^

abbrev pub bar : ℕ
bar = 82  -- |

abbrev pub less : ℕ
less = 83  -- <

abbrev pub greater : ℕ
greater = 84  -- >

abbrev pub dot : ℕ
dot = 85  -- .

-- a word that is no keyword
unfoldable pub is_name : ℕ → Bool
is_name k = leb identifier k && leb k bool_name

-- any word
unfoldable pub is_word : ℕ → Bool
is_word k = leb identifier k && leb k sizeof_word
