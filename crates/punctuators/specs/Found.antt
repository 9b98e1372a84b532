-- The mark that the code found, and the bytes with which a mark of more than one byte begins.
use Rattle.std.specs.Prelude.{Bool, true, false, ◌&&◌, ◌||◌, Option, Some, None, ℕ, eqb, leb}
use Rattle.definition.specs.Kind as kind
use Rattle.definition.specs.Mark.{Mark}
use Rattle.encoding.specs.Kinds.{kind_number}
use Rattle.punctuators.specs.declared.Found.{Found}

-- the kind `end` is no mark
abbrev pub kind_or_none : ℕ → Option ℕ
kind_or_none k = elim (eqb k kind.end) [ true ↦ None | false ↦ Some k ]

abbrev pub mark : Option Found → Mark
mark None = record { kind = kind.end; size = 1 }
mark (Some f) = record { kind = kind_number f.kind; size = f.size }

abbrev pub longer : ℕ → Bool
longer a = eqb a 33 || (eqb a 38 || (eqb a 46 || ((leb 60 a && leb a 62) || eqb a 124)))
