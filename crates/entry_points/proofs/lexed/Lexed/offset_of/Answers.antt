use Rattle.encoding.proofs.TokenKinds.{is_kind, no_kind}
use Rattle.encoding.specs.declared.token_kinds.TokenKind.TheVariants.{End}
use Rattle.entry_points.proofs.Parsing.{here_end, here-token}
use Rattle.entry_points.proofs.lexed.Lexed.offset_of.Goals as goal

pub returns-then-eq : goal.returns-then-eq
returns-then-eq c = here_end _ _ _ _ _ _ c.kind.ensures (is_kind c.kind.result End c.eq.ensures c.if-eq.true)

pub returns : goal.returns
returns c = here-token _ _ _ _ _ _ c.kind.ensures (no_kind c.kind.result End c.eq.ensures c.if-eq.false) _ c.word_at.ensures
