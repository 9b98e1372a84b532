use mathlib.Core.Path.{refl, sym, ◌∙◌}
use Rattle.definition.specs.Row.{function}
use Rattle.definition.specs.Types.{equal_row}
use Rattle.definition.specs.Declarator.{add_function}
use Rattle.table.specs.Reply.{reply}
use Rattle.table.proofs.Branch.{some!, none! }
use Rattle.table.proofs.Shown.{got!, next, exit, held_next}
use Rattle.lemmas.specs.Options.{option}
use Rattle.encoding.specs.Spans.{span}
use Rattle.derived_types.proofs.Derived.{near_equal}
use Rattle.derived_types.proofs.add_function.Goals as goal

pub returns-in-Some : goal.returns-in-Some
unfolding add_function
returns-in-Some c = record {
  run = λ t h. some! (equal_row t (function (option c.args.returns) c.args.varargs (span c.args.parameters)) 0 t.rows) _ _
      (sym (near_equal t (option c.args.returns) c.args.varargs c.args.parameters.count c.args.parameters.first c.min-near.ensures h.words.fits.parameters 0 t.rows) ∙ (sym (c.in-Some.ensures.of t _ h c.function_row-like.ensures)))
      (got! ((c.own_parameters.ensures.with _ _).run t h));
}

pub returns-in_err-e : goal.returns-in_err-e
unfolding add_function
returns-in_err-e c = record {
  run = λ t h. none! (equal_row t (function (option c.args.returns) c.args.varargs (span c.args.parameters)) 0 t.rows) _ _
      (sym (near_equal t (option c.args.returns) c.args.varargs c.args.parameters.count c.args.parameters.first c.min-near.ensures h.words.fits.parameters 0 t.rows) ∙ (sym (c.in_default.ensures.of t _ h c.function_row-like.ensures)))
      (exit reply _ ((c.in_err-e.ensures.of (function (option c.args.returns) c.args.varargs (span c.args.parameters)) c.function_row.ensures).run t h) c.from_residual.ensures.1 refl);
}

pub own_parameters-requires-2 : goal.own_parameters-requires-2
own_parameters-requires-2 c =
    let g = held_next (c.in_ok-e.ensures.of (function (option c.args.returns) c.args.varargs (span c.args.parameters)) c.function_row.ensures) c.requires in
    (g.long.words, g.room)

pub returns : goal.returns
unfolding add_function
returns c = record {
  run = λ t h. none! (equal_row t (function (option c.args.returns) c.args.varargs (span c.args.parameters)) 0 t.rows) _ _
      (sym (near_equal t (option c.args.returns) c.args.varargs c.args.parameters.count c.args.parameters.first c.min-near.ensures h.words.fits.parameters 0 t.rows) ∙ (sym (c.in_default.ensures.of t _ h c.function_row-like.ensures)))
      (next _ ((c.in_ok-e.ensures.of (function (option c.args.returns) c.args.varargs (span c.args.parameters)) c.function_row.ensures).run t h) (λ t₁ h₁. got! ((c.own_parameters-2.ensures.with _ _).run t₁ h₁)));
}
