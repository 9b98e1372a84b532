use native.Mathlib.Omega.{arith}
use mathlib.Core.Path.{refl, sym, ap, ◌∙◌}
use Prim.Native.Nat.{max}
use Rattle.lemmas.specs.Options.{option}
use Rattle.layout_arithmetic.specs.Outcome.{laid_of}
use Rattle.layout_arithmetic.proofs.Members.{union-is, union-none, union-zero, union-wide}
use Rattle.layout_arithmetic.proofs.Laid.in_union.Goals as goal
use Rattle.layout_arithmetic.proofs.Laid.in_union.Goals.{in-Some-eq0, in_default, in_default-via-in-Some+in_default, in_default-via-in_default}

pub returns : goal.returns
returns c = λ e q. let l = laid_of c.args.self in union-is e c.args.size (max c.args.align 1) l _ refl (omega (arith, c.max.ensures)) (elim c.match-width.branch [
  | in-Some-eq0 w ↦ w.widest-is ∙ sym (union-zero e c.args.size (max c.args.align 1) l (sym w.in-Some-eq0.field-0-is ∙ w.in-Some-eq0.field-0-test) (ap option (sym w.in-Some-eq0.is) ∙ q))
  | in_default w ↦ w.widest-is ∙ w.max-widest.ensures ∙ sym (elim w.in_default.branch [
    | in_default-via-in-Some+in_default w' ↦ union-wide e c.args.size (max c.args.align 1) l _ (λ z. w'.in_default.field-0-test.1 (w'.in_default.field-0-is ∙ z)) (ap option (sym w'.in_default.is) ∙ q)
    | in_default-via-in_default w' ↦ union-none e c.args.size (max c.args.align 1) l (ap option (sym w'.in_default.is) ∙ q)
  ])
])
