use Rattle.std.proofs.Common.{rules, drop}
use Rattle.std.proofs.lemmas.Iterator.{YieldsList-from_slice}
use Rattle.std.proofs.lemmas.Iterator.Search.{YieldsList-from_take_while}
use Rattle.std.proofs.lemmas.Iterator.Consumers.{count_from_yields_List}
use Rattle.skipping.proofs.Rounds.{precedes, bounds-are}
use Rattle.skipping.proofs.bound_words.Goals as goal

pub returns : goal.returns
returns c =
    let road = YieldsList-from_take_while _ precedes (YieldsList-from_slice (drop c.args.at c.args.kinds.now) (search rules)) (search rules) (search rules) (λ x b q k. search rules) in
    λ ns t. bounds-are c.args.kinds.now ns t c.args.at (count_from_yields_List _ c.count.result c.count.ensures.ran road)
