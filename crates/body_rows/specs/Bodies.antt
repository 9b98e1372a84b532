-- The table after a body, in the definition's terms.
use Rattle.std.specs.Prelude.{Bool, ℕ, set}
use Rattle.std.proofs.Math.Option.{none, some}
use Rattle.definition.specs.Answer.{got, ◌>>=◌}
use Rattle.definition.specs.Row.{Row, Span as MeantSpan, span_of}
use Rattle.definition.specs.Table.{Table, State, Reads, row_at, mark_of, with_rows, with_table, push_row}
use Rattle.definition.specs.Types.{equal_row}
use Rattle.definition.specs.Composite.{Body, define_body}
use Rattle.definition.specs.Enumeration.{define_enum}
use Rattle.encoding.specs.Spans.{span}
use Rattle.encoding.specs.declared.span.Span.{Span}
use Rattle.open_lists.specs.Owning.{Kind, rerowed, released}

abbrev pub body_of : ℕ → Span → Body
body_of size fields = record { size = size; fields = span fields }

-- the place plays no part
abbrev pub body_defined : Bool → ℕ → ℕ → Body → Table → Table
body_defined union name n b t = (define_body union name n b (record { at = 0; table = t })).table

abbrev pub enum_defined : ℕ → ℕ → ℕ → MeantSpan → Table → Table
enum_defined name n bytes e t = (define_enum name n bytes e (record { at = 0; table = t })).table

-- The same of any row with entries: those that row n had carry row 0, and those of the new one carry it.
abbrev pub with_row : ℕ → Row → Table → Table
with_row n x t = with_rows t (set t.rows n x)

abbrev pub defined : {E : Type 0} → Kind E → ℕ → Row → Table → Table
defined k n x t = rerowed k (span_of x).first (mark_of (span_of x).first) n (with_row n x (released k n (span_of (row_at t n)).count t))

-- A row with entries and without a tag: an equal row, and then its entries carry row 0, or a new one.
abbrev pub owned : {E : Type 0} → Kind E → ℕ → ℕ → State → State
owned k first n s = with_table s (rerowed k first (mark_of first) n s.table)

abbrev pub added : {E : Type 0} → Kind E → Row → Reads ℕ
added k x s = elim (equal_row s.table x 0 s.table.rows) [
  | some n ↦ got (n, owned k (span_of x).first 0 s)
  | none ↦ (do
    r ← push_row x s
    got (r.0, owned k (span_of x).first r.0 r.1))
]
