use borrow.Author.Rules.{rules}
use mathlib.Core.Path.{sym}
use Rattle.definition.specs.Text.{bytes, same}
use Rattle.keywords.specs.Slots.{none, spellings, spelling_of}
use Rattle.keywords.proofs.Slotted.{empty}
use Rattle.keywords.proofs.spelled.Goals as goal

pub returns-in_default-clause-spelling : goal.returns-in_default-clause-spelling
unfolding spelling_of spellings none bytes same
returns-in_default-clause-spelling c = sym (empty 128 _ c.requires (search rules))
