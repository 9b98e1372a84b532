use native.Mathlib.Omega.{arith}
use mathlib.Core.Path.{sym, ap, ◌∙◌}
use Prim.Native.Nat.{◌+◌}
use Rattle.std.proofs.lemmas.Int.{ints}
use Rattle.std.proofs.lemmas.List.{length-map}
use Rattle.encoding.specs.Kinds.{kind_number, kind_numbers}
use Rattle.encoding.specs.declared.token_kinds.TokenKind.TheVariants.{Equals}
use Rattle.encoding.proofs.TokenKinds.{is_kind!, no_kind! }
use Rattle.table.proofs.Steps.{inside}
use Rattle.skipping.specs.Passing.{standing}
use Rattle.skipping.proofs.Rounds.{all-from, kind-read, none-stands, one-stands, initialiser-stop, initialiser-end, initialiser-on, deeper-small}
use Rattle.skipping.proofs.initialiser.Goals as goal

pub returns-then-ne : goal.returns-then-ne
returns-then-ne c = λ ns t. none-stands (kind_numbers c.args.kinds.now) ns t c.args.at c.kind_at.ensures.is (no_kind! c.kind_at.result Equals c.ne.ensures c.if-ne.true)

pub overflow_add-begin : goal.overflow_add-begin
overflow_add-begin c = omega (arith, inside c.args.kinds.now c.kind_at.ensures (omega (arith, is_kind! c.kind_at.result Equals c.ne.ensures c.if-ne.false)))

pub loop-i-init : goal.loop-i-init
loop-i-init c =
    let e = is_kind! c.kind_at.result Equals c.ne.ensures c.if-ne.false in
    let h = inside c.args.kinds.now c.kind_at.ensures (omega (arith, e)) in
    record {
      same = λ ns t. one-stands (kind_numbers c.args.kinds.now) ns t c.args.at (omega (arith, h, length-map c.args.kinds.now kind_number)) c.kind_at.ensures.is e (omega arith);
      above = omega (arith, ints);
      below = omega (arith, ints);
    }

pub overflow_add-depth : goal.overflow_add-depth
overflow_add-depth c = let b = deeper-small (kind_number c.index-rest-i.result) in omega (arith, ints, c.deeper-depth.ensures, b.0, b.1, c.well_formed.0.1)

pub loop-i-preserved : goal.loop-i-preserved
loop-i-preserved c =
    let b = deeper-small (kind_number c.index-rest-i.result) in
    record {
      same = λ ns t. c.loop-i.invariant.same ns t
          ∙ initialiser-on (kind_numbers c.args.kinds.now) ns t (c.args.at + 1 + c.loop-i.i) _ (omega (arith, all-from c.args.kinds.now (c.args.at + 1) c.from-rest.ensures)) (kind-read c.args.kinds.now (c.args.at + 1) c.from-rest.ensures c.loop-i.i c.index-rest-i.is c.loop-i-test.true) (omega arith)
          (omega (arith, ints, c.deeper-depth.ensures, b.0, b.1, c.well_formed.0.1)) (sym c.if-ends_initialiser.ensures);
      above = omega (arith, ints, c.deeper-depth.ensures, b.0, b.1, c.well_formed.0.1);
      below = omega (arith, ints, c.deeper-depth.ensures, b.0, b.1, c.well_formed.0.1);
    }

pub returns-then-ends_initialiser : goal.returns-then-ends_initialiser
returns-then-ends_initialiser c = λ ns t. c.loop-i.invariant.same ns t
    ∙ initialiser-stop (kind_numbers c.args.kinds.now) ns t (c.args.at + 1 + c.loop-i.i) _ _ (kind-read c.args.kinds.now (c.args.at + 1) c.from-rest.ensures c.loop-i.i c.index-rest-i.is c.loop-i-test.true) (sym c.if-ends_initialiser.ensures)

pub returns : goal.returns
returns c = λ ns t. c.loop-i.invariant.same ns t
    ∙ initialiser-end (kind_numbers c.args.kinds.now) ns t (c.args.at + 1 + c.loop-i.i) _ _ (omega (arith, all-from c.args.kinds.now (c.args.at + 1) c.from-rest.ensures))
    ∙ ap (λ i. standing (c.args.at + 1 + i) t) (omega arith)
