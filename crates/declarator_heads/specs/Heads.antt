-- What is read before the name of a declarator: stars, and a parenthesis. And declarators that need no steps to be kept.
use Rattle.std.specs.Prelude.{◌≡◌, Bool, ◌&&◌, not, List, [], ◌++◌, ℕ, suc, ◌+◌, eqb, ℤ, length, get_or, Result}
use Rattle.definition.specs.Kind.{is_name, end, star, open_bracket, open_paren}
use Rattle.definition.specs.Token.{Tokens, left}
use Rattle.definition.specs.Row.{Qualifiers}
use Rattle.definition.specs.Table.{Table, new_table, Reads}
use Rattle.definition.specs.Declarator.{qualifiers_here, stars_from}
use Rattle.table.specs.Held.{InWords, Indexed, Counts}
use Rattle.encoding.specs.declared.refusals.Refusal.{Refusal}
use Rattle.table.specs.Reply.{Reply, ok, replied, Does}
use Rattle.table.specs.declared.Cursor.{Cursor}
use Rattle.declarator_steps.specs.declared.Steps.{Steps}
use Rattle.declarator_steps.specs.Pending.{pending, Waiting}
use Rattle.skipping.specs.Passing.{tokens, standing}
use Rattle.declarator_heads.specs.declared.Starred.{Starred}

-- the stars that stand here, after `used` steps
abbrev pub stars_here : Tokens → ℕ → Reads (List Qualifiers)
stars_here ts used s = stars_from ts (suc (left ts s.at)) used [] s

-- stars that were read, and where to read on; or a refusal
abbrev pub stars : List Qualifiers → Result Cursor Refusal → Reply (List Qualifiers)
stars qs = replied (λ c. ok c qs)

-- s' is s with the stars qs, the newest first, before those that waited
pub record Holds (qs : List Qualifiers) (s s' : Steps) : Type 0 where
  pub all : pending s' ≡ record { steps = (pending s).steps; stars = qs ++ (pending s).stars }
  pub len : s'.len ≡ s.len
  pub held : s'.held ≡ s.held + length qs
  pub waiting : Waiting s' s'.held

-- The stars at c are read and wait, whatever the numbers of the tokens are and whatever the slices hold.
pub record Stars (ks : List ℕ) (c : Cursor) (s : Steps) (r : Starred) : Type 0 where
  pub read : List Qualifiers
  pub holds : Holds read s r.steps
  pub does : (ns w d : List ℕ) (v : List ℤ) (used : ℕ) → used ≡ s.held + s.len → Does (stars_here (tokens ks ns) used) c w d v (stars read r.answer) w d v

-- What is told of w is what f says of whatever table w holds, with as many rows as the cursor counts.
pub record Tells {A : Type 0} (f : Table → A) (c : Cursor) (w : List ℕ) (r : A) : Type 0 where
  pub of : (t : Table) (h : InWords t w) → Indexed t.rows t.values h.rest → Counts t c → r ≡ f t

-- a name at i, and neither a bound nor a parameter list after it
unfoldable pub is_plain : List ℕ → ℕ → Bool
is_plain ks i = is_name (get_or ks i end) && (not (eqb (get_or ks (i + 1) end) open_bracket) && not (eqb (get_or ks (i + 1) end) open_paren))

-- a star with its qualifiers at i, and such a name after them; the kinds alone decide where they end
unfoldable pub is_plain_pointer : List ℕ → ℕ → Bool
is_plain_pointer ks i = eqb (get_or ks i end) star && is_plain ks (qualifiers_here (tokens ks []) (standing (i + 1) new_table)).1.at
