use Rattle.table.proofs.Columns.{declaration-made}
use Rattle.table.proofs.declaration_at.Goals as goal

pub returns : goal.returns
returns c = record { of = λ t h. declaration-made c.from.ensures (c.declaration_word-number.ensures.of t h) (c.declaration_word-ty.ensures.of t h) (c.declaration_word-name.ensures.of t h) }
