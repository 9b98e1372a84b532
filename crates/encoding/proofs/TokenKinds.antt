-- `==` and `!=` on kinds of tokens are those on their numbers, and kinds with one number are one. Assumes nothing.
use Rattle.std.specs.Prelude.{◌==◌}
use Rattle.std.specs.Ordering.{on}
use lib.Dec.{eqb}
use native.Mathlib.Omega.{arith}
use borrow.Author.Tests.{eqb-true, eqb-false, ne_eqb}
use mathlib.Core.Path.{◌≡◌, refl, sym, ap, ◌∙◌}
use mathlib.Core.List.{List, [], ◌∷◌}
use lib.ListN.{get_or}
use Rattle.std.proofs.lemmas.List.{get_or_past}
use mathlib.Core.Bool.{Bool, true, false, not}
use Prim.Native.Nat.{ℕ, ◌<◌, max}
use mathlib.Core.HLevel.{is_prop→PathP}
use Rattle.std.proofs.Props.{props}
use Rattle.definition.specs.Kind.{dot}
use Rattle.encoding.specs.declared.other_kind.OtherKind.{OtherKind}
use Rattle.encoding.specs.Kinds.{kind_number}
use Rattle.encoding.specs.declared.token_kinds.TokenKind.{TokenKind}
use Rattle.encoding.specs.declared.token_kinds.TokenKind.TheVariants.{End, Number, Text, Attribute, Identifier, Int8Name, Int16Name, Int32Name, Int64Name, Uint8Name, Uint16Name, Uint32Name, Uint64Name, IntmaxName, UintmaxName, IntptrName, SsizeName, PtrdiffName, UintptrName, SizeName, WcharName, Char8Name, Char16Name, Char32Name, BoolName, VoidWord, CharWord, ShortWord, IntWord, LongWord, FloatWord, DoubleWord, SignedWord, UnsignedWord, BoolWord, ComplexWord, StructWord, UnionWord, EnumWord, ConstWord, VolatileWord, RestrictWord, AtomicWord, TypedefWord, ExternWord, StaticWord, AutoWord, RegisterWord, InlineWord, NoreturnWord, ThreadLocalWord, ExtensionWord, SizeofWord, Ellipsis, ShiftLeft, ShiftRight, LessEqual, GreaterEqual, EqualEqual, NotEqual, AndAnd, OrOr, OpenParen, CloseParen, OpenBracket, CloseBracket, OpenBrace, CloseBrace, Star, Comma, Semicolon, Colon, Question, Equals, Plus, Minus, Tilde, Bang, Slash, Percent, Ampersand, Caret, Bar, Less, Greater, Dot, Other}

-- what is known where `k == j` is tested
pub is_kind : (k j : TokenKind) {r : Bool} → r ≡ on kind_number ◌==◌ k j → r ≡ true → kind_number k ≡ kind_number j
is_kind k j e t = eqb-true _ _ (sym e ∙ t)

pub no_kind : (k j : TokenKind) {r : Bool} → r ≡ on kind_number ◌==◌ k j → r ≡ false → kind_number k ≡ kind_number j → ⊥
no_kind k j e f = eqb-false _ _ (sym e ∙ f)

-- and where `k != j` is
turned : {r b : Bool} → r ≡ not b → not r ≡ b
turned {b = true} e = ap not e
turned {b = false} e = ap not e

pub is_kind! : (k j : TokenKind) {r : Bool} → r ≡ not (on kind_number ◌==◌ k j) → r ≡ false → kind_number k ≡ kind_number j
is_kind! k j e f = is_kind k j (turned e) (ap not f)

pub no_kind! : (k j : TokenKind) {r : Bool} → r ≡ not (on kind_number ◌==◌ k j) → r ≡ true → kind_number k ≡ kind_number j → ⊥
no_kind! k j e t = no_kind k j (turned e) (ap not t)

-- kinds that the definition does not name, with one number
same_other : (a b : OtherKind) → a.number ≡ b.number → a ≡ b
same_other a b e = λ i. record { number = e i; past = is_prop→PathP (λ j. dot < e j) (λ j. hlevel props) a.past b.past i }

-- the named kinds, in the order of their numbers
abbrev listed : List TokenKind
listed = End ∷ Number ∷ Text ∷ Attribute ∷ Identifier ∷ Int8Name ∷ Int16Name ∷ Int32Name ∷ Int64Name ∷ Uint8Name ∷ Uint16Name ∷ Uint32Name ∷ Uint64Name ∷ IntmaxName ∷ UintmaxName ∷ IntptrName ∷ SsizeName ∷ PtrdiffName ∷ UintptrName ∷ SizeName ∷ WcharName ∷ Char8Name ∷ Char16Name ∷ Char32Name ∷ BoolName ∷ VoidWord ∷ CharWord ∷ ShortWord ∷ IntWord ∷ LongWord ∷ FloatWord ∷ DoubleWord ∷ SignedWord ∷ UnsignedWord ∷ BoolWord ∷ ComplexWord ∷ StructWord ∷ UnionWord ∷ EnumWord ∷ ConstWord ∷ VolatileWord ∷ RestrictWord ∷ AtomicWord ∷ TypedefWord ∷ ExternWord ∷ StaticWord ∷ AutoWord ∷ RegisterWord ∷ InlineWord ∷ NoreturnWord ∷ ThreadLocalWord ∷ ExtensionWord ∷ SizeofWord ∷ Ellipsis ∷ ShiftLeft ∷ ShiftRight ∷ LessEqual ∷ GreaterEqual ∷ EqualEqual ∷ NotEqual ∷ AndAnd ∷ OrOr ∷ OpenParen ∷ CloseParen ∷ OpenBracket ∷ CloseBracket ∷ OpenBrace ∷ CloseBrace ∷ Star ∷ Comma ∷ Semicolon ∷ Colon ∷ Question ∷ Equals ∷ Plus ∷ Minus ∷ Tilde ∷ Bang ∷ Slash ∷ Percent ∷ Ampersand ∷ Caret ∷ Bar ∷ Less ∷ Greater ∷ Dot ∷ []

-- the kind of a number
kind_of : ℕ → TokenKind
kind_of n = get_or listed n (Other (record { number = max n 86; past = omega arith }))

kind_of-number : (k : TokenKind) → kind_of (kind_number k) ≡ k
unfolding kind_of
kind_of-number End = refl
kind_of-number Number = refl
kind_of-number Text = refl
kind_of-number Attribute = refl
kind_of-number Identifier = refl
kind_of-number Int8Name = refl
kind_of-number Int16Name = refl
kind_of-number Int32Name = refl
kind_of-number Int64Name = refl
kind_of-number Uint8Name = refl
kind_of-number Uint16Name = refl
kind_of-number Uint32Name = refl
kind_of-number Uint64Name = refl
kind_of-number IntmaxName = refl
kind_of-number UintmaxName = refl
kind_of-number IntptrName = refl
kind_of-number SsizeName = refl
kind_of-number PtrdiffName = refl
kind_of-number UintptrName = refl
kind_of-number SizeName = refl
kind_of-number WcharName = refl
kind_of-number Char8Name = refl
kind_of-number Char16Name = refl
kind_of-number Char32Name = refl
kind_of-number BoolName = refl
kind_of-number VoidWord = refl
kind_of-number CharWord = refl
kind_of-number ShortWord = refl
kind_of-number IntWord = refl
kind_of-number LongWord = refl
kind_of-number FloatWord = refl
kind_of-number DoubleWord = refl
kind_of-number SignedWord = refl
kind_of-number UnsignedWord = refl
kind_of-number BoolWord = refl
kind_of-number ComplexWord = refl
kind_of-number StructWord = refl
kind_of-number UnionWord = refl
kind_of-number EnumWord = refl
kind_of-number ConstWord = refl
kind_of-number VolatileWord = refl
kind_of-number RestrictWord = refl
kind_of-number AtomicWord = refl
kind_of-number TypedefWord = refl
kind_of-number ExternWord = refl
kind_of-number StaticWord = refl
kind_of-number AutoWord = refl
kind_of-number RegisterWord = refl
kind_of-number InlineWord = refl
kind_of-number NoreturnWord = refl
kind_of-number ThreadLocalWord = refl
kind_of-number ExtensionWord = refl
kind_of-number SizeofWord = refl
kind_of-number Ellipsis = refl
kind_of-number ShiftLeft = refl
kind_of-number ShiftRight = refl
kind_of-number LessEqual = refl
kind_of-number GreaterEqual = refl
kind_of-number EqualEqual = refl
kind_of-number NotEqual = refl
kind_of-number AndAnd = refl
kind_of-number OrOr = refl
kind_of-number OpenParen = refl
kind_of-number CloseParen = refl
kind_of-number OpenBracket = refl
kind_of-number CloseBracket = refl
kind_of-number OpenBrace = refl
kind_of-number CloseBrace = refl
kind_of-number Star = refl
kind_of-number Comma = refl
kind_of-number Semicolon = refl
kind_of-number Colon = refl
kind_of-number Question = refl
kind_of-number Equals = refl
kind_of-number Plus = refl
kind_of-number Minus = refl
kind_of-number Tilde = refl
kind_of-number Bang = refl
kind_of-number Slash = refl
kind_of-number Percent = refl
kind_of-number Ampersand = refl
kind_of-number Caret = refl
kind_of-number Bar = refl
kind_of-number Less = refl
kind_of-number Greater = refl
kind_of-number Dot = refl
kind_of-number (Other k) = get_or_past listed k.number (Other (record { number = max k.number 86; past = omega arith })) (omega (arith, k.past)) ∙ ap Other (same_other _ k (omega (arith, k.past)))

pub one_kind : (k j : TokenKind) → kind_number k ≡ kind_number j → k ≡ j
one_kind k j e = sym (kind_of-number k) ∙ ap kind_of e ∙ kind_of-number j

-- kinds that differ have numbers that differ
pub apart : (k j : TokenKind) → (k ≡ j → ⊥) → kind_number k ≡ kind_number j → ⊥
apart k j n e = n (one_kind k j e)

pub another : (k j : TokenKind) → (k ≡ j → ⊥) → eqb (kind_number k) (kind_number j) ≡ false
another k j n = ne_eqb _ _ (apart k j n)

pub same_kind : (k j : TokenKind) → on kind_number ◌==◌ k j ≡ eqb (kind_number k) (kind_number j)
same_kind k j = refl
