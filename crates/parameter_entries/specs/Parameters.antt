-- What is said of the entries of a parameter list, and of its end.
use Rattle.std.specs.Prelude.{◌≡◌, Bool, List, ℕ, ℤ, Result}
use Rattle.definition.specs.Answer.{◌>>=◌}
use Rattle.definition.specs.Model.{Model}
use Rattle.definition.specs.Table.{Table, Reads, mark_of, push_parameter}
use Rattle.definition.specs.Grammar.{Levels}
use Rattle.definition.specs.Declarator.{adjusted, is_void_list, parameters_end}
use Rattle.table.specs.Held.{state}
use Rattle.encoding.specs.declared.refusals.Refusal.{Refusal}
use Rattle.table.specs.Reply.{reply_by, Does}
use Rattle.table.specs.declared.Cursor.{Cursor}
use Rattle.declarator_steps.specs.Pending.{step_of}
use Rattle.declarator_steps.specs.declared.Step.{Step}

-- A list is closed, whatever the numbers of the tokens are and whatever the slices hold: they stay.
pub record Closes (ks : List ℕ) (varargs : Bool) (first n : ℕ) (c : Cursor) (r : Result (Cursor × Step) Refusal) : Type 0 where
  pub with : (ns : List ℕ) (m : Model) (next : Levels) (w d : List ℕ) (v : List ℤ) → Does (parameters_end (record { kinds = ks; numbers = ns }) m next varargs first n) c w d v (reply_by step_of r) w d v

-- Whether a list is `( void )`, whatever the numbers of the tokens are and whatever the table is.
pub record VoidList (ks : List ℕ) (n name type : ℕ) (c : Cursor) (r : Bool) : Type 0 where
  pub of : (ns : List ℕ) (t : Table) → r ≡ is_void_list (record { kinds = ks; numbers = ns }) n name type (state c t)

-- a parameter that was read from the token `at` on, as an entry of the list whose first is `first`: a piece of `parametersFrom`
unfoldable pub added_parameter : ℕ → ℕ → ℕ → ℕ → Reads ℕ
added_parameter first at type name s = do
  a ← adjusted at type s
  push_parameter (record { row = mark_of first; type = a.0; name = name }) a.1
