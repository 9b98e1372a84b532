use borrow.Author.Rules.{rules}
use mir.Facts.{to_z-of_z}
use mir.Syntax.{w64}
use mir.Val.{SFits}
use mathlib.Core.Path.{refl, sym}
use Rattle.table.specs.Reply.{reply_by}
use Rattle.lemmas.specs.Options.{option}
use Rattle.definition.specs.Declarator.{constant_bound}
use Rattle.std.proofs.lemmas.Result.{err_from_is_err_and}
use Rattle.table.proofs.Branch.{via, halt}
use Rattle.table.proofs.Shown.{got!, no!, next, exit}
use Rattle.bounds_widths.proofs.constant_bound.Goals as goal

pub returns-in_err-e : goal.returns-in_err-e
unfolding constant_bound
returns-in_err-e c = record { with = λ m d. record { run = λ t h. exit (reply_by option) _ ((c.in_err-e.ensures.with m d).run t h) c.from_residual.ensures.1 refl } }

pub returns-in_err-end : goal.returns-in_err-end
unfolding constant_bound
returns-in_err-end c = record { with = λ m d. record { run = λ t h. next _ ((c.in_ok-e.ensures.with m d).run t h) (λ t₁ h₁. exit (reply_by option) _ ((c.in_err-end.ensures.with _ _ _ _).run t₁ h₁) c.from_residual-in_err-end.ensures.1 refl) } }

pub returns-in_err-n : goal.returns-in_err-n
unfolding constant_bound
returns-in_err-n c = let f : SFits w64 c.in_ok-e.z = search rules in let q = rw (to_z-of_z f) at c.in_err-n.ensures in let p = err_from_is_err_and c.from_residual-in_err-n.result c.from_residual-in_err-n.ensures.1 in
    rw (p.1, p.2) (record { with = λ m d. record { run = λ t h. next _ ((c.in_ok-e.ensures.with m d).run t h) (λ t₁ h₁. next _ ((c.in_ok-end.ensures.with _ _ _ _).run t₁ h₁) (λ t₂ h₂. halt _ (sym q) (no! h₂ refl))) } })

pub returns : goal.returns
unfolding constant_bound
returns c = let f : SFits w64 c.in_ok-e.z = search rules in let q = rw (to_z-of_z f) at c.in_ok-n.ensures in
    record { with = λ m d. record { run = λ t h. next _ ((c.in_ok-e.ensures.with m d).run t h) (λ t₁ h₁. next _ ((c.in_ok-end.ensures.with _ _ _ _).run t₁ h₁) (λ t₂ h₂. via _ (sym q) (got! h₂))) } }
