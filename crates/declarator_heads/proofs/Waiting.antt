-- What callers use: stars that were read stop waiting, and become steps. Assumes nothing.
use mathlib.Core.Path.{◌≡◌, ap, ◌∙◌}
use mathlib.Core.List.{List, ◌++◌}
use Prim.Native.Nat.{◌-◌}
use native.Mathlib.Omega.{arith}
use lib.ListN.{length}
use lib.Seq.{take-append_seam, drop-append_seam}
use Rattle.definition.specs.Row.{Qualifiers}
use Rattle.definition.specs.Declarator.{starred}
use Rattle.declarator_steps.specs.declared.Steps.{Steps}
use Rattle.declarator_steps.specs.Pending.{Pending, pending, released}
use Rattle.declarator_heads.specs.Heads.{Holds}

-- the stars that were read, where what they stand before has been read and they wait as they did
pub released-read : {qs : List Qualifiers} {s s' : Steps} (p : Pending) → Holds qs s s' → p.stars ≡ (pending s').stars
    → ◌≡◌ {A = Pending} (released (s'.held - s.held) p) (record { steps = starred qs p.steps; stars = (pending s).stars })
released-read {qs} {s} {s'} p h e =
    let n : s'.held - s.held ≡ length qs = omega (arith, h.held) in
    let x : p.stars ≡ qs ++ (pending s).stars = e ∙ ap (λ y. y.stars) h.all in
    rw (n, x, take-append_seam qs (pending s).stars, drop-append_seam qs (pending s).stars)
