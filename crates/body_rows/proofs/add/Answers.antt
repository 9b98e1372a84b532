use mathlib.Core.Path.{◌≡◌, refl, sym, ap}
use Rattle.definition.specs.Row.{span_of}
use Rattle.definition.specs.Types.{equal_row}
use Rattle.table.specs.Reply.{reply}
use Rattle.table.specs.declared.Numbers.{Numbers}
use Rattle.table.proofs.Branch.{some!, none! }
use Rattle.table.proofs.Shown.{got!, next, exit, held_next}
use Rattle.body_rows.proofs.add.Goals as goal

pub returns-in-Some : goal.returns-in-Some
returns-in-Some g c = record {
  of = λ x e. record {
    run = λ t h.
        let f : c.args.row.first ≡ (span_of x).first = ap (λ (y : Numbers). y.first) e in
        some! (equal_row t x 0 t.rows) _ _ (sym (c.in-Some.ensures.of t x h e)) (got! (((rw f at (c.own.ensures)).with _ _).run t h));
  };
}

pub returns-in_err-e : goal.returns-in_err-e
returns-in_err-e g c = record {
  of = λ x e. record { run = λ t h. none! (equal_row t x 0 t.rows) _ _ (sym (c.in_default.ensures.of t x h e)) (exit reply _ ((c.in_err-e.ensures.of x e).run t h) c.from_residual.ensures.1 refl) };
}

pub own-requires-2 : goal.own-requires-2
own-requires-2 g c = let h = held_next (c.in_ok-e.ensures.of _ c.requires.a_row.1) c.requires.held in (h.long.words, h.room)

pub returns : goal.returns
returns g c = record {
  of = λ x e. record {
    run = λ t h.
        let f : c.args.row.first ≡ (span_of x).first = ap (λ (y : Numbers). y.first) e in
        none! (equal_row t x 0 t.rows) _ _ (sym (c.in_default.ensures.of t x h e)) (next _ ((c.in_ok-e.ensures.of x e).run t h) (λ t₁ h₁. got! (((rw f at (c.own-2.ensures)).with _ _).run t₁ h₁)));
  };
}
