use Rattle.std.proofs.Common.{rules, ◌≡◌, ℕ}
use Rattle.std.proofs.lemmas.Iterator.{first_from_Range}
use Rattle.same_entries.proofs.next_entry.Goals as goal

pub returns : goal.returns
returns g c =
    first_from_Range _ _ _ c.find.result (λ i. goal.R-post g c.args.row_of.now i c.args.row) (λ i. (n : ℕ) × goal.R-post g c.args.row_of.now i n × (n ≡ c.args.row → ⊥))
    c.find.ensures.ran (λ x q k. search rules) (λ x q k. search rules)
