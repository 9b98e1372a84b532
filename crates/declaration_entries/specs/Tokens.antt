-- What is said of functions that look at tokens alone.
use Rattle.std.specs.Prelude.{List, ℕ, ℤ}
use Rattle.definition.specs.Answer.{Answer, got}
use Rattle.definition.specs.Token.{Tokens}
use Rattle.definition.specs.Model.{Model}
use Rattle.definition.specs.Table.{State}
use Rattle.definition.specs.Reader.{optional_semicolon}
use Rattle.table.specs.Reply.{Reply, ok, Nothing, none, Moves}
use Rattle.table.specs.declared.Cursor.{Cursor}

-- The code moves as f says, whatever the numbers of the tokens, the model and the slices are: the slices stay.
pub record MovesBy (f : Tokens → Model → State → Answer State) (ks : List ℕ) (c : Cursor) (r : Reply Nothing) : Type 0 where
  pub with : (ns : List ℕ) (m : Model) (w d : List ℕ) (v : List ℤ) → Moves (f (record { kinds = ks; numbers = ns }) m) c w d v r w d v

-- the answer of a function that refuses nothing
abbrev pub to : Cursor → Reply Nothing
to c = ok c none

abbrev pub semicolon_passed : Tokens → Model → State → Answer State
semicolon_passed ts m s = got (optional_semicolon ts m s)
