use borrow.Author.Rules.{rules}
use Rattle.std.proofs.lemmas.Iterator.{first_from_Range, serves_from_Range}
use Rattle.table.specs.Held.{Encodes}
use Rattle.named_rows.proofs.Searches.{all_there}
use Rattle.type_rows.proofs.Same.{Equal, Other, finds}
use Rattle.type_rows.proofs.equal_row.Goals as goal

pub returns-in_default : goal.returns-in_default
returns-in_default c = record { of = λ t x h e. absurd (all_there h.words c.in_default.ensures.1) }

pub find-requires-clause-callable : goal.find-requires-clause-callable
find-requires-clause-callable c = serves_from_Range (λ x q k. search rules) (λ x p q. search rules)

pub returns : goal.returns
returns c = record {
  of = λ t x h e.
      let h₁ : Encodes t c.args.c c.in-Ok.w.now c.args.d.now c.args.v.now = rw c.in-Ok.ensures.1.same h in
      finds t x c.find.result h.counts.rows (first_from_Range _ _ _ c.find.result (Equal t x) (Other t x) c.find.ensures.ran (λ i q k. search rules) (λ i q k. search rules));
}
