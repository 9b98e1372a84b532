use mathlib.Core.Path.{sym, ap, ◌∙◌}
use native.Mathlib.Omega.{arith}
use Rattle.std.proofs.Common.{rules, ◌≡◌}
use Rattle.std.specs.Option.{option_map}
use Rattle.encoding.specs.Kinds.{kind_number}
use Rattle.definition.specs.Text.{byte_at}
use Rattle.definition.specs.Scan.{from}
use Rattle.definition.specs.Mark.{one_byte_marks, mark_among, mark_at}
use Rattle.punctuators.proofs.Marks.{byte_bound, mark-three, mark-one, mark-two, mark-alone, one-short}
use Rattle.punctuators.proofs.mark_at.Goals as goal
use Rattle.punctuators.proofs.mark_at.Goals.{then-is_longer+else-is_ellipsis+in_default, else-is_longer}

pub returns-then-is_ellipsis-clause-same : goal.returns-then-is_ellipsis-clause-same
returns-then-is_ellipsis-clause-same c = sym (mark-three c.args.text.now c.args.at (sym c.if-is_ellipsis.ensures))

pub two_bytes-requires : goal.two_bytes-requires
two_bytes-requires c = (rw c.byte_at-a.ensures (byte_bound c.args.text.now (λ k. omega (arith, c.type_inv.text k)) _), rw c.byte_at.ensures (byte_bound c.args.text.now (λ k. omega (arith, c.type_inv.text k)) _))

pub returns-in-Some-clause-same : goal.returns-in-Some-clause-same
returns-in-Some-clause-same c = sym (mark-two c.args.text.now _ (sym c.if-is_ellipsis.ensures) _ (rw (c.byte_at-a.ensures, c.byte_at.ensures) at c.in-Some.ensures))

pub returns-clause-same : goal.returns-clause-same
returns-clause-same c =
    let single : mark_at (from c.args.text.now c.args.at) ≡ record { kind = mark_among one_byte_marks (byte_at c.args.text.now c.args.at); size = 1 } =
    elim c.if-is_longer.branch [
      | then-is_longer+else-is_ellipsis+in_default w ↦ mark-one c.args.text.now _ (sym w.if-is_ellipsis.ensures) (rw (c.byte_at-a.ensures, w.byte_at.ensures) at (sym (ap (option_map kind_number) w.in_default.is) ∙ w.two_bytes.ensures))
      | else-is_longer w ↦ mark-alone c.args.text.now _ (rw c.byte_at-a.ensures at (sym w.if-is_longer.ensures)) (byte_bound c.args.text.now (λ k. omega (arith, c.type_inv.text k)) _)
    ] in
    one-short _ c.one_byte.result c.map.result (rw c.byte_at-a.ensures at c.one_byte.ensures) (search rules) ∙ sym single
