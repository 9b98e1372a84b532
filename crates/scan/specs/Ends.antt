-- Where a closure says that bytes stop, each asked alone.
use Rattle.std.specs.Prelude.{◌≡◌, Bool, ◌∷◌, ℕ, ◌+◌}
use Rattle.definition.specs.Text.{Bytes}
use Rattle.definition.specs.Scan.{from, before}

-- the end is where a stop of the definition holds, if what the closure says of a byte is what the stop says there
abbrev pub Ends : (ℕ → Bool → Type 0) → Bytes → ℕ → ℕ → Type 0
Ends says text at end = (stop : Bytes → Bool) → ((b : ℕ) (t : Bool) (bs : Bytes) → says b t → t ≡ stop (b ∷ bs)) → end ≡ at + before stop (from text at)
