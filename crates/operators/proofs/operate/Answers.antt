use borrow.Author.Rules.{rules}
use Rattle.definition.specs.Arithmetic.{Operator, operators, operator, operator_in, left_side, greater, equal, bits_or, shift_right}
use Rattle.arithmetic.proofs.Told.{tests, ored, moved}
use mathlib.Core.Path.{◌≡◌, refl}
use mathlib.Core.Bool.{false}
use mathlib.Core.List.{List, [], ◌∷◌}
use Prim.Native.Nat.{ℕ}
use lib.Dec.{eqb}
use Rattle.encoding.proofs.TokenKinds.{another}
use Rattle.encoding.specs.declared.token_kinds.TokenKind.TheVariants.{OrOr, AndAnd, Bar, Caret, Ampersand, EqualEqual, NotEqual, Less, Greater, LessEqual, GreaterEqual, ShiftLeft, ShiftRight, Plus, Minus, Star, Slash, Percent}
use Rattle.operators.proofs.operate.Goals as goal

pub returns-in-Greater : goal.returns-in-Greater
unfolding operator operators operator_in greater
returns-in-Greater c = rw c.in-Greater.is (search (rules, tests))

pub returns-in-EqualEqual : goal.returns-in-EqualEqual
unfolding operator operators operator_in equal
returns-in-EqualEqual c = rw c.in-EqualEqual.is (search (rules, tests))

pub returns-in-Bar : goal.returns-in-Bar
unfolding operator operators operator_in bits_or
returns-in-Bar c = rw c.in-Bar.is (ored c.ranges.a c.ranges.b)

pub returns-in-ShiftRight : goal.returns-in-ShiftRight
unfolding operator operators operator_in shift_right
returns-in-ShiftRight c = rw c.in-ShiftRight.is (moved c.ranges.a c.ranges.b c.shift_count.ensures c.min.ensures)

-- a kind that is no operator's
abbrev Outside : List (ℕ × ℕ × Operator) → ℕ → Type 0
Outside [] k = Unit
Outside (o ∷ os) k = (eqb k o.0 ≡ false) × Outside os k

no_operator : (os : List (ℕ × ℕ × Operator)) (k : ℕ) → Outside os k → (operator_in os k).1 ≡ left_side
unfolding operator_in
no_operator [] k h = refl
no_operator (o ∷ os) k h = rw (h.0, operator_in) (no_operator os k h.1)

pub returns-in_default : goal.returns-in_default
unfolding operators operator left_side
returns-in_default c =
    let d = c.in_default in
    let n = another c.args.kind in
    rw (no_operator operators _ (n OrOr d.not-OrOr, (n AndAnd d.not-AndAnd, (n Bar d.not-Bar, (n Caret d.not-Caret, (n Ampersand d.not-Ampersand, (n EqualEqual d.not-EqualEqual, (n NotEqual d.not-NotEqual, (n Less d.not-Less, (n Greater d.not-Greater, (n LessEqual d.not-LessEqual, (n GreaterEqual d.not-GreaterEqual, (n ShiftLeft d.not-ShiftLeft, (n ShiftRight d.not-ShiftRight, (n Plus d.not-Plus, (n Minus d.not-Minus, (n Star d.not-Star, (n Slash d.not-Slash, (n Percent d.not-Percent, tt))))))))))))))))))) (search (rules, tests))
