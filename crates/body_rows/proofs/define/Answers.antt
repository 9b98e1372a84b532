use mathlib.Core.Path.{◌≡◌, ap}
use Rattle.definition.specs.Row.{span_of}
use Rattle.table.specs.declared.Numbers.{Numbers}
use Rattle.table.proofs.Shown.{held_after}
use Rattle.body_rows.proofs.define.Goals as goal

pub set_row-requires : goal.set_row-requires
set_row-requires g c = held_after (c.release.ensures.with _ _) c.requires.held

pub own-requires : goal.own-requires
own-requires g c = let h = held_after (c.set_row.ensures.of _ c.requires.a_row.1) (held_after (c.release.ensures.with _ _) c.requires.held) in (h.long.words, h.room)

pub returns : goal.returns
returns g c = record {
  of = λ x e. record {
    run = λ t h.
        let f : c.args.row.first ≡ (span_of x).first = ap (λ (y : Numbers). y.first) e in
        ((rw f at c.own.ensures).with _ _).run _ ((c.set_row.ensures.of x e).run _ ((c.release.ensures.with _ _).run t h));
  };
}
