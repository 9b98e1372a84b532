use borrow.Author.Rules.{rules}
use mathlib.Core.List.{[]}
use native.Mathlib.Omega.{arith}
use Rattle.definition.specs.Table.{new_table}
use Rattle.table.proofs.Shown.{held_at}
use Rattle.parser.proofs.Plain.{a-name, name-there, star-there, a-plain, pointer-done, pointer-refused}
use Rattle.parser.proofs.pointer_type.Goals as goal

pub overflow_add-star : goal.overflow_add-star
overflow_add-star c = omega (arith, star-there _ _ c.requires.at_value)

pub overflow_add-at : goal.overflow_add-at
overflow_add-at c = omega (arith, name-there _ _ (a-plain _ _ c.requires.at_value (c.qualifiers_here-at.ensures [] new_table)))

pub apply_pointer-requires : goal.apply_pointer-requires
apply_pointer-requires c = held_at c.moved.ensures c.requires.held

pub name-name-requires : goal.name-name-requires
name-name-requires c = (a-name _ _ (a-plain _ _ c.requires.at_value (c.qualifiers_here-at.ensures [] new_table)))

pub returns : goal.returns
returns c = record { of = λ m room h. pointer-done _ _ m room _ _ h c.requires.at_value c.qualifiers_here-at.ensures c.moved.ensures c.in_ok-e.ensures c.name-name.ensures }

pub returns-in_err-e : goal.returns-in_err-e
returns-in_err-e c = record { of = λ m room h. pointer-refused _ _ m room _ _ h c.requires.at_value c.qualifiers_here-at.ensures c.moved.ensures _ _ c.in_err-e.ensures c.from_residual.ensures.1 }
