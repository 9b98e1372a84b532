use mathlib.Core.Path.{sym, ap, ◌∙◌}
use Rattle.layout_arithmetic.specs.Outcome.{exact}
use Rattle.layout_arithmetic.proofs.Told.{is_number, is-small, is-over}
use Rattle.layout_arithmetic.proofs.Sizes.{overflowed, bytes-out, size-out, size-large, size_is}
use Rattle.layout_arithmetic.proofs.Laid.record_size.Goals as goal

pub returns-in_err-bytes : goal.returns-in_err-bytes
returns-in_err-bytes c = λ m t at.
    rw (overflowed c.from_residual.result _ _ c.from_residual.ensures.1 c.in_err-bytes.ensures.value)
    (bytes-out m t _ at _ (ap (λ r. exact r at) (sym c.in_err-bytes.ensures.ok_part) ∙ c.bytes_taken.ensures m t at))

pub returns-in_err-size : goal.returns-in_err-size
returns-in_err-size c = λ m t at.
    rw (overflowed c.from_residual-in_err-size.result _ _ c.from_residual-in_err-size.ensures.1 c.in_err-size.ensures.value)
    (size-out m t _ at _ _ (ap (λ r. exact r at) (sym c.in_ok-bytes.ensures.ok_part) ∙ c.bytes_taken.ensures m t at) (is-over c.round_up.ensures c.in_err-size.ensures.ok_part))

pub returns-then-size-ge-SIZE_LIMIT : goal.returns-then-size-ge-SIZE_LIMIT
returns-then-size-ge-SIZE_LIMIT c = λ m t at.
    size-large m t _ at _ _ (ap (λ r. exact r at) (sym c.in_ok-bytes.ensures.ok_part) ∙ c.bytes_taken.ensures m t at) (is-small c.round_up.ensures c.in_ok-size.ensures.ok_part) (rw (is_number c.round_up.ensures c.in_ok-size.ensures.ok_part) at c.if-size-ge-SIZE_LIMIT.true)

pub returns : goal.returns
returns c = λ m t at. size_is m t _ at _ _ (ap (λ r. exact r at) (sym c.in_ok-bytes.ensures.ok_part) ∙ c.bytes_taken.ensures m t at) (is_number c.round_up.ensures c.in_ok-size.ensures.ok_part) c.if-size-ge-SIZE_LIMIT.false
