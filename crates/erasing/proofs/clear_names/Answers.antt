use mathlib.Core.Path.{refl}
use mathlib.Core.List.{List}
use Prim.Native.Nat.{ℕ, ◌+◌, ◌-◌}
use native.Mathlib.Omega.{arith}
use lib.ListN.{get_or}
use borrow.Author.Rules.{rules}
use borrow.Rule.Slice.PartMut.{put_mid}
use Rattle.definition.specs.Region.{words_length, names_at}
use Rattle.table.specs.Held.{marks_at, top_at}
use Rattle.erasing.specs.Taken.{Out}
use Rattle.erasing.proofs.Blanks.{filled, emptied}
use Rattle.erasing.proofs.Names.{names-out}
use Rattle.erasing.proofs.clear_names.Goals as goal

pub returns : goal.returns
returns c =
    let w = c.args.w.now in
    let u : List ℕ = put_mid names_at (c.min-end.result - names_at) w c.fill.new.self in
    let o : Out 0 names_at (names_at + get_or w (names_at + top_at) 0) (names_at + marks_at) w u = emptied 0 _ _ _ _ _ _ (c.fill.ensures.after (search rules)) (omega arith) (omega arith) (λ s. omega arith) in
    names-out o (filled 0 _ 6 words_length u _ (c.fill-2.ensures.after (search rules)) refl (omega (arith, o.long))) refl
