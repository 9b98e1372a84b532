use native.Mathlib.Omega.{arith}
use Rattle.layout_arithmetic.proofs.Sizes.{union-bytes, struct_bytes, struct_out}
use Rattle.layout_arithmetic.proofs.Laid.bytes_taken.Goals as goal

pub returns-then-union : goal.returns-then-union
returns-then-union c = λ m t at. union-bytes m t _ at _ c.if-union.true

pub returns-then-bytes-ge-ALL_BYTES : goal.returns-then-bytes-ge-ALL_BYTES
returns-then-bytes-ge-ALL_BYTES c = λ m t at. struct_out m t _ at _ c.if-union.false (omega (arith, c.bytes_of-bytes.ensures, c.if-bytes-ge-ALL_BYTES.true))

pub returns : goal.returns
returns c = λ m t at. struct_bytes m t _ at _ c.if-union.false c.bytes_of-bytes.ensures c.if-bytes-ge-ALL_BYTES.false
