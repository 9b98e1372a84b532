use native.Mathlib.Omega.{arith}
use mathlib.Core.Path.{sym}
use Rattle.layout_arithmetic.specs.Outcome.{laid_of}
use Rattle.layout_arithmetic.proofs.Members.{field-at, field_out}
use Rattle.layout_arithmetic.proofs.Laid.field_at.Goals as goal

pub returns-in_err-end : goal.returns-in_err-end
returns-in_err-end c = λ e unit x. let n = c.in_err-end.ensures in rw c.from_residual.ensures (field_out e c.args.align (laid_of c.args.self) c.args.width unit c.args.first (omega arith))

pub returns : goal.returns
returns c = λ e unit x. let p = c.in_ok-end.ensures in field-at e c.args.align (laid_of c.args.self) c.args.width unit c.args.first _ _ x (omega arith) (rw (sym p.1) c.advanced.ensures)
