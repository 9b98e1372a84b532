-- The alignment of a row, or none: "`align_at` gives nothing below depth 32". It is what it is at the moment.
use Rattle.std.specs.Prelude.{List, [], ◌∷◌, ℕ, zero, suc, min, max}
use Rattle.std.proofs.Math.Option.{Option, none, some}
use Rattle.definition.specs.Limit.{align_levels}
use Rattle.definition.specs.Model.{Model}
use Rattle.definition.specs.Row.{Row, void, int, float, bool, pointer, array, composite, enumeration, function, typedef, qualified}
use Rattle.definition.specs.Table.{Table, Member, row_at}
use Rattle.definition.specs.Types.{members_of}

-- the larger of two alignments that may be absent
abbrev pub larger : Option ℕ → Option ℕ → Option ℕ
larger none b = b
larger (some a) none = some a
larger (some a) (some b) = some (max a b)

-- an alignment that isn't there counts 1
abbrev pub or_one : Option ℕ → ℕ
or_one none = 1
or_one (some a) = a

-- a scalar's size, at least 1 and at most the cap
abbrev pub capped : Model → ℕ → ℕ
capped m s = min (max s 1) (max m.max_align 1)

unfoldable pub largest : (ℕ → Option ℕ) → List Member → Option ℕ
largest align [] = none
largest align (e ∷ es) = larger (align e.type) (largest align es)

-- the alignment of row n, given the alignments of the rows that it names: a struct's is that of its strictest member
unfoldable pub align_by : Model → Table → (ℕ → Option ℕ) → ℕ → Row → Option ℕ
align_by m t align n void = none
align_by m t align n (int s g) = some (capped m s)
align_by m t align n (float s) = some (capped m s)
align_by m t align n bool = some 1
align_by m t align n (pointer r) = some (capped m m.pointer)
align_by m t align n (array r b) = align r
align_by m t align n (composite u w s e) = some (or_one (largest align (members_of t n e)))
align_by m t align n (enumeration w s e) = some (capped m s)
align_by m t align n (function r v e) = none
align_by m t align n (typedef w r) = align r
align_by m t align n (qualified r q) = align r

unfoldable pub align_within : ℕ → Model → Table → ℕ → Option ℕ
align_within zero m t n = none
align_within (suc d) m t n = align_by m t (λ r. align_within d m t r) n (row_at t n)

abbrev pub align_of : Model → Table → ℕ → Option ℕ
align_of m t n = align_within align_levels m t n
