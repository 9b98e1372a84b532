use Rattle.std.proofs.Common.{◌≡◌, ◌∙◌, sym, rules}
use mathlib.Core.Bool.{true, false}
use lib.Dec.{ltb}
use Rattle.std.proofs.lemmas.Iterator.{IsFirst-from_position, YieldsList-from_slice}
use Rattle.definition.specs.Cut.{above_ascii}
use Rattle.scan.proofs.Going.{first_or_all}
use Rattle.lexer.proofs.ascii_end.Goals as goal

pub returns : goal.returns
unfolding above_ascii
returns c =
    let p = IsFirst-from_position _ _ c.position.result (λ b. ltb 127 b ≡ true) (λ b. ltb 127 b ≡ false) c.position.ensures.ran (YieldsList-from_slice c.args.text.now (search rules)) (λ x q k. search rules) (λ x q k. search rules) in
    c.unwrap_or.ensures ∙ first_or_all (λ b t. ltb 127 b ≡ t) above_ascii (λ b t bs h. sym h) c.args.text.now c.position.result p
