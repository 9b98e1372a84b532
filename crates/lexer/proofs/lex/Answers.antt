use mathlib.Core.Path.{refl, sym, ◌∙◌}
use borrow.Author.Tests.{leb-true, leb-false}
use Rattle.lexer.proofs.Entry.{too_long, not_ascii, filled}
use Rattle.lexer.proofs.lex.Goals as goal

pub returns-then-text-gt-MAX_TEXT-clause-lexes : goal.returns-then-text-gt-MAX_TEXT-clause-lexes
returns-then-text-gt-MAX_TEXT-clause-lexes c = too_long c.args.text.now c.if-text-gt-MAX_TEXT.true

pub returns-then-not-is_ascii-clause-lexes : goal.returns-then-not-is_ascii-clause-lexes
returns-then-not-is_ascii-clause-lexes c = not_ascii c.args.text.now c.if-text-gt-MAX_TEXT.false _ c.ascii_end.ensures (rw c.ascii_end.ensures (leb-false _ _ (sym c.is_ascii.ensures ∙ c.if-not-is_ascii.true)))

pub returns-clause-lexes : goal.returns-clause-lexes
returns-clause-lexes c = filled c.args.text.now c.if-text-gt-MAX_TEXT.false _ refl (leb-true _ _ (sym c.is_ascii.ensures ∙ c.if-not-is_ascii.false)) _ _ _ _ c.cut_all.ensures
