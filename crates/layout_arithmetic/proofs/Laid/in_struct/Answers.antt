use mathlib.Core.Path.{sym, ap, ◌∙◌}
use Rattle.lemmas.specs.Options.{option}
use Rattle.layout_arithmetic.proofs.Members.{is_plain, is-zero, is_field}
use Rattle.layout_arithmetic.proofs.Laid.in_struct.Goals as goal

pub returns-in-None : goal.returns-in-None
returns-in-None c = λ e q. c.plain_member.ensures e ∙ sym (is_plain e _ _ _ (ap option (sym c.in-None.is) ∙ q))

pub returns-in-Some-eq0 : goal.returns-in-Some-eq0
returns-in-Some-eq0 c = λ e q. c.zero_field.ensures e ∙ sym (is-zero e _ _ _ (sym c.in-Some-eq0.field-0-is ∙ c.in-Some-eq0.field-0-test) (ap option (sym c.in-Some-eq0.is) ∙ q))

pub returns-in-Some : goal.returns-in-Some
returns-in-Some c = λ e q. rw c.from.ensures at (c.bit_field.ensures e) ∙ sym (is_field e _ _ _ _ (rw c.in-Some.is at c.in-Some.bits-test).1 (ap option (sym c.in-Some.is) ∙ q))
