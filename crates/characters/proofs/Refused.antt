-- What `ok_or` refuses with. Assumes nothing.
use mathlib.Core.Path.{◌≡◌, sym, ◌∙◌}
use Rattle.std.specs.Prelude.{Option, None, Result, Err}
use Rattle.std.specs.Option.{ok_or}

pub refused_with : {A E : Type 0} {o : Option A} {e x : E} {r : Result A E} → r ≡ ok_or o e → r ≡ Err x → o ≡ None → e ≡ x
refused_with {e = e} {x = x} v w n = let f : Err e ≡ Err x = sym (rw n at v) ∙ w in cc
