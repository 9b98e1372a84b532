use native.Mathlib.Omega.{arith}
use mathlib.Core.Path.{sym, ap, ◌∙◌}
use mathlib.Core.Bool.{true, false}
use lib.ListN.{length}
use Rattle.std.specs.Prelude.{Some, None}
use Rattle.std.proofs.Common.{rules}
use Rattle.std.proofs.lemmas.Iterator.{first_from_Range}
use Rattle.definition.specs.Table.{row_at}
use Rattle.lemmas.specs.Options.{option}
use Rattle.named_rows.specs.Finds.{Says}
use Rattle.named_rows.proofs.Searches.{named_test, named-none, named-some, all_there}
use Rattle.named_rows.proofs.row_named.Goals as goal

pub returns-then-w-ne-WORDS : goal.returns-then-w-ne-WORDS
returns-then-w-ne-WORDS c = record { of = λ t h x k. absurd (all_there h c.if-w-ne-WORDS.true) }

pub returns-in_err-first : goal.returns-in_err-first
returns-in_err-first c = record {
  of = λ t h x k. ap option c.from_residual.ensures ∙ named-none c.args.kind c.args.name t.rows (length t.rows) (λ i p q. c.in_err-first.ensures.none_before.of t h x i p tt) (λ i p q. absurd (omega arith));
}

pub returns-in_err-i : goal.returns-in_err-i
returns-in_err-i c =
    let f = first_from_Range _ _ _ None (λ i. Says (λ t. named_test c.args.kind c.args.name i (row_at t i)) c.args.w.now true) (λ i. Says (λ t. named_test c.args.kind c.args.name i (row_at t i)) c.args.w.now false) c.in_err-i.ensures.ran (λ x q k. search rules) (λ x q k. search rules) in
    record {
      of = λ t h x k. ap option c.from_residual-in_err-i.ensures ∙ named-none c.args.kind c.args.name t.rows c.in_ok-first.first (c.in_ok-first.ensures.none_before.of t h x) (λ i p q. sym ((f i p (omega (arith, k.rows))).of t h));
    }

pub overflow_cast-result : goal.overflow_cast-result
overflow_cast-result c =
    let f = first_from_Range _ _ _ (Some c.in_ok-i.i) (λ i. Says (λ t. named_test c.args.kind c.args.name i (row_at t i)) c.args.w.now true) (λ i. Says (λ t. named_test c.args.kind c.args.name i (row_at t i)) c.args.w.now false) c.in_ok-i.ensures.ran (λ x q k. search rules) (λ x q k. search rules) in
    omega (arith, f.1, c.requires.rows)

pub returns : goal.returns
returns c =
    let f = first_from_Range _ _ _ (Some c.in_ok-i.i) (λ i. Says (λ t. named_test c.args.kind c.args.name i (row_at t i)) c.args.w.now true) (λ i. Says (λ t. named_test c.args.kind c.args.name i (row_at t i)) c.args.w.now false) c.in_ok-i.ensures.ran (λ x q k. search rules) (λ x q k. search rules) in
    record {
      of = λ t h x k. named-some c.args.kind c.args.name t.rows c.in_ok-first.first (c.in_ok-first.ensures.none_before.of t h x) c.in_ok-i.i (omega (arith, f.1, k.rows)) (sym (f.2.of t h)) (λ i p q. sym ((f.3 i p q).of t h));
    }
