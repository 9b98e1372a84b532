use Rattle.std.proofs.Common.{rules, arith}
use Rattle.std.proofs.lemmas.Iterator.{IsFirst-from_position}
use Rattle.scan.proofs.Windows.{YieldsList-from_windows, Close, Goes, closes_first}
use Rattle.scan.proofs.comment_end.Goals as goal

pub returns : goal.returns
returns c =
    let chain = YieldsList-from_windows {s = c.windows.result} 2 c.from-inside.result.now (omega arith) (search rules) (search rules) in
    let p = IsFirst-from_position _ _ c.position.result Close Goes c.position.ensures.ran chain (λ x q k. search rules) (λ x q k. search rules) in
    let e = closes_first c.from-inside.result.now c.position.result p in
    cc
