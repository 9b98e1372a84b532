use mathlib.Core.Path.{sym}
use Rattle.attributes.proofs.Parens.{not_closed_lem, closed}
use Rattle.attributes.proofs.parenthesized.Goals as goal

pub returns-then-text-end : goal.returns-then-text-end
returns-then-text-end c = sym (not_closed_lem c.args.text.now _ _ _ c.parens_end-end.ensures c.if-text-end.true)

pub returns : goal.returns
returns c = rw c.changes_layout-layout.ensures (sym (closed c.args.text.now _ _ _ c.parens_end-end.ensures c.if-text-end.false))
