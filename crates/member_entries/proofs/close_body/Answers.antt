use Rattle.std.proofs.lemmas.Result.{err_from_is_err_and}
use Rattle.member_entries.proofs.Ends.{closed-laid, closed-refused}
use Rattle.member_entries.proofs.close_body.Goals as goal

pub returns-in_err-size : goal.returns-in_err-size
returns-in_err-size c = let p = err_from_is_err_and c.from_residual.result c.from_residual.ensures.1 in rw (p.1, p.2) (record { with = λ v. record { run = λ t h. closed-refused _ _ _ _ (c.in_err-size.ensures.of t v h) } })

pub returns : goal.returns
returns c = record { with = λ v. record { run = λ t h. closed-laid _ _ _ _ (c.in_ok-size.ensures.of t v h) c.fields_only.ensures c.field_count-count.ensures } }
