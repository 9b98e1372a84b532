-- What the reader of widths answers.
use Rattle.std.specs.Prelude.{ℕ, Option, Result, Ok, Err}
use Rattle.encoding.specs.declared.refusals.Refusal.{Refusal}
use Rattle.table.specs.declared.Cursor.{Cursor}
use Rattle.table.specs.Widths.{Storable}

-- a width that was read can be stored
abbrev pub Fits : Result (Cursor × Option ℕ) Refusal → Type 0
Fits (Ok p) = Storable p.1
Fits (Err e) = Unit
