use Rattle.std.proofs.Common.{◌∙◌, rules}
use Rattle.std.proofs.lemmas.Iterator.{YieldsList-from_slice}
use Rattle.std.proofs.lemmas.Iterator.Consumers.{fold_from_yields_List}
use Rattle.lexer.proofs.Entry.{both, both-all}
use mathlib.Core.Bool.{true}
use Rattle.lexer.proofs.is_ascii.Goals as goal

pub returns : goal.returns
returns c = fold_from_yields_List _ both true _ c.fold.ensures.ran (YieldsList-from_slice c.args.text.now (search rules)) (λ a x b q k. search rules) ∙ both-all c.args.text.now
