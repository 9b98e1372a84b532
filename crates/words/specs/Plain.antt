-- Rows that are their kind, flags and extent, and no more.
use Rattle.std.specs.Prelude.{◌≡◌}
use Rattle.std.proofs.Math.Option.{Option, some}
use Rattle.definition.specs.Name.{no_name}
use Rattle.definition.specs.Row.{Row, nothing, target_of, row_name, span_of}
use Rattle.words.specs.declared.types.BaseRow.{BaseRow}
use Rattle.words.specs.Meaning.{numbers}

-- the row names no other, has no name and no entries
pub record Plain (x : Row) : Type 0 where
  pub target : target_of x ≡ 0
  pub name : row_name x ≡ no_name
  pub entries : span_of x ≡ nothing

-- where there is a row, it is plain
pub record AllPlain (o : Option Row) : Type 0 where
  pub of : (x : Row) → o ≡ some x → Plain x

-- there is a row, and b has its numbers
pub record Stands (o : Option Row) (b : BaseRow) : Type 0 where
  pub row : Row
  pub there : o ≡ some row
  pub same : b ≡ numbers row
