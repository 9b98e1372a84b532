use mathlib.Core.Path.{sym}
use lib.Seq.{length-take-le}
use Rattle.std.proofs.lemmas.List.{take-map, length-map}
use Rattle.encoding.specs.Kinds.{kind_number}
use Rattle.std.proofs.lemmas.Result.{err_from_is_err_and}
use Rattle.entry_points.proofs.Telling.{lexes, text-columns, text-places, text-done, text-refused}
use Rattle.entry_points.proofs.read_columns.Goals as goal

pub slice_bounds-read_tokens-end : goal.slice_bounds-read_tokens-end
slice_bounds-read_tokens-end c = rw (length-map c.lex.new.kinds kind_number) at (lexes c.args.text.now c.in_ok-count.ensures.lexes).kinds

pub slice_bounds-read_tokens-end-2 : goal.slice_bounds-read_tokens-end-2
slice_bounds-read_tokens-end-2 c = sym (length-take-le _ _ (rw (length-map c.lex.new.kinds kind_number) at (lexes c.args.text.now c.in_ok-count.ensures.lexes).kinds))

pub slice_bounds-read_tokens-end-3 : goal.slice_bounds-read_tokens-end-3
slice_bounds-read_tokens-end-3 c = (lexes c.args.text.now c.in_ok-count.ensures.lexes).places

pub slice_bounds-read_tokens-end-4 : goal.slice_bounds-read_tokens-end-4
slice_bounds-read_tokens-end-4 c = sym (length-take-le _ _ (lexes c.args.text.now c.in_ok-count.ensures.lexes).places)

pub slice_bounds-read_tokens-end-5 : goal.slice_bounds-read_tokens-end-5
slice_bounds-read_tokens-end-5 c = (lexes c.args.text.now c.in_ok-count.ensures.lexes).numbers

pub slice_bounds-read_tokens-end-6 : goal.slice_bounds-read_tokens-end-6
slice_bounds-read_tokens-end-6 c = sym (length-take-le _ _ (lexes c.args.text.now c.in_ok-count.ensures.lexes).numbers)

pub read_tokens-requires : goal.read_tokens-requires
read_tokens-requires c = let l = lexes c.args.text.now c.in_ok-count.ensures.lexes in let q = text-columns l in record { columns = rw (take-map kind_number c.in_ok-count.count c.lex.new.kinds) at q; places_below = text-places l c.args.links.now c.lex.new.links c.args.heads c.requires.scratch.links c.lex.auto.links; encodes = c.requires.encodes }

pub returns : goal.returns
returns c = text-done (lexes c.args.text.now c.in_ok-count.ensures.lexes) _ _ (rw (← take-map kind_number c.in_ok-count.count c.lex.new.kinds) at c.read_tokens.ensures)

pub returns-in_err-count : goal.returns-in_err-count
returns-in_err-count c = let p = err_from_is_err_and c.from_residual.result c.from_residual.ensures.1 in rw (p.1, p.2) (text-refused c.args.text.now _ _ _ _ c.in_err-count.ensures.lexes)
