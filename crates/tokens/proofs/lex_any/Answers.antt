use mathlib.Core.Path.{refl}
use native.Mathlib.Omega.{arith}
use Rattle.spellings.specs.Chain.{many}
use Rattle.tokens.proofs.Answered.{zero_links}
use Rattle.tokens.proofs.lex_any.Goals as goal

pub lex-requires-clause-links_if : goal.lex-requires-clause-links_if
lex-requires-clause-links_if c = zero_links c.args.text.now _ 4096 69632 (many refl) (omega arith) refl
