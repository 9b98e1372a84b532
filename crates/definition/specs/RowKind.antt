-- Kinds of type rows, by number, in the order in which document 01 lists what a type line shows.
use Rattle.std.specs.Prelude.{ℕ}

abbrev pub void_kind : ℕ
void_kind = 0

abbrev pub int_kind : ℕ
int_kind = 1

abbrev pub float_kind : ℕ
float_kind = 2

abbrev pub bool_kind : ℕ
bool_kind = 3

abbrev pub pointer_kind : ℕ
pointer_kind = 4

abbrev pub array_kind : ℕ
array_kind = 5

abbrev pub struct_kind : ℕ
struct_kind = 6

abbrev pub union_kind : ℕ
union_kind = 7

abbrev pub enum_kind : ℕ
enum_kind = 8

abbrev pub function_kind : ℕ
function_kind = 9

abbrev pub typedef_kind : ℕ
typedef_kind = 10

abbrev pub qualified_kind : ℕ
qualified_kind = 11
