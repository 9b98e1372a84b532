-- The lines of entries, one after the other. Assumes nothing.
use Rattle.std.proofs.Common.{◌≡◌, sym, [], ◌++◌}
use Rattle.definition.specs.Text.{Bytes}
use Rattle.definition.specs.Table.{Table}
use Rattle.lines.specs.Lines.{WritesAs}
use Rattle.printing.specs.declared.Writer.{Writer}
use Rattle.printing.specs.Written.{Keeps, Writes}
use Rattle.printing.proofs.Writing.{nothing, as_is, then, keeps_still, keeps_both}

-- a loop that writes: what is left to write from here makes the whole
pub record Going (whole : Bytes) (o : Writer) (rest : Bytes) (p : Writer) : Type 0 where
  pub ends : (q : Writer) → Writes rest p q → Writes whole o q

pub starts : {whole : Bytes} {o : Writer} → Going whole o whole o
starts = record { ends = λ q w. w }

module _ {whole rest : Bytes} {o p : Writer} (g : Going whole o rest p) where
  pub done : rest ≡ [] → Writes whole o p
  done e = g.ends p (as_is nothing (sym e))

  pub passes : {rest' : Bytes} → rest ≡ rest' → Going whole o rest' p
  passes e = rw e at g

  pub goes_on : {some rest' : Bytes} {q : Writer} → rest ≡ some ++ rest' → Writes some p q → Going whole o rest' q
  goes_on e w = record { ends = λ r v. g.ends r (as_is (then w v) (sym e)) }

-- the same for whatever table the slices hold
pub record GoingAs (is : Table → Type 0) (whole : Table → Bytes) (o : Writer) (rest : Table → Bytes) (p : Writer) : Type 0 where
  pub kept : Keeps o p
  pub of : (t : Table) → is t → Going (whole t) o (rest t) p

pub all_left : {is : Table → Type 0} {whole : Table → Bytes} {o : Writer} → GoingAs is whole o whole o
all_left = record { kept = keeps_still; of = λ t h. starts }

module _ {is : Table → Type 0} {whole rest : Table → Bytes} {o p : Writer} (g : GoingAs is whole o rest p) where
  pub none_left : ((t : Table) → is t → rest t ≡ []) → WritesAs is whole o p
  none_left e = record { kept = g.kept; of = λ t h. done (g.of t h) (e t h) }

  pub left_after : {some rest' : Table → Bytes} {q : Writer} → ((t : Table) → is t → rest t ≡ some t ++ rest' t) → WritesAs is some p q → GoingAs is whole o rest' q
  left_after e w = record { kept = keeps_both g.kept w.kept; of = λ t h. goes_on (g.of t h) (e t h) (w.of t h) }

-- what was written is so under a stronger condition, and in other terms
pub held_by : {is is' : Table → Type 0} {f : Table → Bytes} {o p : Writer} → WritesAs is f o p → ((t : Table) → is' t → is t) → WritesAs is' f o p
held_by w k = record { kept = w.kept; of = λ t h. w.of t (k t h) }

pub both : {is : Table → Type 0} {f g : Table → Bytes} {o p q : Writer} → WritesAs is f o p → WritesAs is g p q → WritesAs is (λ t. f t ++ g t) o q
both v w = record { kept = keeps_both v.kept w.kept; of = λ t h. then (v.of t h) (w.of t h) }
