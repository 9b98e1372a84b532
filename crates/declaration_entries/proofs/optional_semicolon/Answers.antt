use Rattle.declaration_entries.proofs.Semicolon.{optional-is}
use Rattle.declaration_entries.proofs.optional_semicolon.Goals as goal

pub returns : goal.returns
returns c = record { with = λ ns m w d v. record { run = λ t h. rw c.unwrap_or.ensures (optional-is _ m c.past.result ((c.past.ensures.with ns w d v).run t h) h) } }
