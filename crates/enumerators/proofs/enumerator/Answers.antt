use borrow.Author.Rules.{rules}
use native.Mathlib.Omega.{arith}
use mathlib.Core.Path.{refl, ap, ◌∙◌}
use Rattle.std.proofs.lemmas.Result.{err_from_is_err_and}
use Rattle.encoding.specs.Refusals.{number_of}
use mir.Syntax.{w64}
use mir.Val.{SFits}
use Rattle.definition.specs.Enumeration.{enumerator}
use Rattle.definition.specs.Model.{lp64}
use Rattle.table.specs.Reply.{reply, bad}
use Rattle.table.proofs.Branch.{yes!, nay!, via, halt}
use Rattle.table.proofs.Shown.{got!, no!, step-on, held_at, room_at, next, exit, held_next}
use Rattle.enumerators.proofs.Naming.{some_by, none_by, no_name_lem, a-name, inside, passed, kept-range, entered}
use Rattle.enumerators.proofs.enumerator.Goals as goal

pub returns-then-not-is_name : goal.returns-then-not-is_name
unfolding enumerator
returns-then-not-is_name c = record { model = λ m. record { run = λ t h. nay! _ _ _ (no_name_lem c.kind.ensures c.is_name.ensures c.if-not-is_name.true-raw) (no! h refl) } }

pub overflow_add-at : goal.overflow_add-at
overflow_add-at c = omega (arith, c.well_formed, inside c.args.ts.now.kinds.now c.kind.ensures c.is_name.ensures c.if-not-is_name.false-raw)

pub enumerator_value-requires : goal.enumerator_value-requires
enumerator_value-requires c = room_at c.moved.ensures c.requires.held.room

pub returns-in_err-e : goal.returns-in_err-e
unfolding enumerator
returns-in_err-e c = record { model = λ m. record { run = λ t h. yes! _ _ _ (a-name c.kind.ensures c.is_name.ensures c.if-not-is_name.false-raw) (exit reply _ (step-on c.moved.ensures (c.in_err-e.ensures.with m _) h) c.from_residual.ensures.1 refl) } }

pub returns-in_err-x : goal.returns-in_err-x
unfolding enumerator
returns-in_err-x c = let n = none_by _ _ _ c.in_err-x.ensures.value in let p = err_from_is_err_and c.from_residual-in_err-x.result c.from_residual-in_err-x.ensures.1 in record {
  model = λ m. record { run = λ t h. yes! _ _ _ (a-name c.kind.ensures c.is_name.ensures c.if-not-is_name.false-raw) (next _ (step-on c.moved.ensures (c.in_ok-e.ensures.with m _) h) (λ t₁ h₁. halt _ (passed _ n.0) (no! h₁ (ap reply p.1 ∙ ap (λ z. bad (number_of z.reason) z.at) (p.2 ∙ n.1))))) };
}

pub overflow_add-first : goal.overflow_add-first
overflow_add-first c = omega (arith, c.requires.first_bound)

pub name-requires : goal.name-requires
name-requires c = (a-name c.kind.ensures c.is_name.ensures c.if-not-is_name.false-raw)

pub push_value-requires : goal.push_value-requires
push_value-requires c = held_next (c.in_ok-e.ensures.with lp64 _) (held_at c.moved.ensures c.requires.held)

pub returns-in_err-s : goal.returns-in_err-s
unfolding enumerator
returns-in_err-s c = let f : SFits w64 c.in_ok-x.x = search rules in record {
  model = λ m. record { run = λ t h. yes! _ _ _ (a-name c.kind.ensures c.is_name.ensures c.if-not-is_name.false-raw) (next _ (step-on c.moved.ensures (c.in_ok-e.ensures.with m _) h) (λ t₁ h₁. via _ (kept-range _ (some_by _ _ _ c.in_ok-x.ensures.value) f) (exit reply _ ((entered _ _ c.name.ensures c.in_err-s.ensures).run t₁ h₁) c.from_residual-in_err-s.ensures.1 refl))) };
}

pub returns : goal.returns
unfolding enumerator
returns c = let f : SFits w64 c.in_ok-x.x = search rules in record {
  model = λ m. record { run = λ t h. yes! _ _ _ (a-name c.kind.ensures c.is_name.ensures c.if-not-is_name.false-raw) (next _ (step-on c.moved.ensures (c.in_ok-e.ensures.with m _) h) (λ t₁ h₁. via _ (kept-range _ (some_by _ _ _ c.in_ok-x.ensures.value) f) (next _ ((entered _ _ c.name.ensures c.in_ok-s.ensures).run t₁ h₁) (λ t₂ h₂. got! h₂)))) };
}
