-- A byte of the code, and the number of a class of the code, in the definition.
use Rattle.std.specs.Prelude.{Option, Some, None, ℕ}
use Rattle.definition.specs.Text.{no_byte}
use Rattle.definition.specs.Class.{none, blank, letter, digit, mark}
use Rattle.scan.specs.declared.Class.{Class}
use Rattle.scan.specs.declared.Class.TheVariants.{Nothing, Blank, Letter, Digit, Mark}

abbrev pub byte : Option ℕ → ℕ
byte None = no_byte
byte (Some b) = b

abbrev pub class_number : Class → ℕ
class_number Nothing = none
class_number Blank = blank
class_number Letter = letter
class_number Digit = digit
class_number Mark = mark
