use borrow.Author.Tests.{eqb-true}
use mathlib.Core.Path.{sym, ◌∙◌}
use Rattle.definition.specs.Class.{is_blank}
use Rattle.scan.proofs.Classes.{word-digit, word-letter, no_class}
use Rattle.scan.proofs.class_of.Goals as goal

pub returns-then-b-from : goal.returns-then-b-from
returns-then-b-from c = sym (word-digit _ (rw c.from.ensures at c.if-b-from.true) (sym c.is_word_byte.ensures ∙ c.if-is_word_byte.true))

pub returns-else-b-from : goal.returns-else-b-from
returns-else-b-from c = sym (word-letter _ (rw c.from.ensures at c.if-b-from.false) (sym c.is_word_byte.ensures ∙ c.if-is_word_byte.true))

pub returns-then-is_blank : goal.returns-then-is_blank
unfolding is_blank
returns-then-is_blank c = sym (eqb-true _ _ (sym c.is_blank.ensures ∙ c.if-is_blank.true))

pub returns-else-is_mark : goal.returns-else-is_mark
returns-else-is_mark c = sym (no_class _ (sym c.is_word_byte.ensures ∙ c.if-is_word_byte.false) (sym c.is_blank.ensures ∙ c.if-is_blank.false) (sym c.is_mark.ensures ∙ c.if-is_mark.false))
