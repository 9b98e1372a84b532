-- A name is a token, and a star before one. Assumes nothing.
use mathlib.Core.Path.{◌≡◌, refl, sym, ◌∙◌}
use mathlib.Core.Bool.{true}
use mathlib.Core.List.{List, []}
use Prim.Native.Nat.{ℕ, zero, suc, ◌+◌, ◌<◌}
use native.Mathlib.Omega.{arith}
use lib.ListN.{length, get_or}
use borrow.Author.Tests.{eq-eqb}
use Rattle.definition.specs.Kind.{is_name, star}
use Rattle.definition.specs.Row.{Qualifiers}
use Rattle.definition.specs.Table.{new_table}
use Rattle.definition.specs.Declarator.{qualifiers_here}
use Rattle.table.specs.Reply.{Peek}
use Rattle.encoding.specs.Kinds.{kind_numbers}
use Rattle.encoding.specs.declared.token_kinds.TokenKind.{TokenKind}
use Rattle.table.proofs.Steps.{there, inside}
use Rattle.skipping.specs.Passing.{tokens, standing}
use Rattle.declarator_heads.specs.Heads.{is_plain, is_plain_pointer}

not_none : (k : ℕ) → is_name k ≡ true → 0 < k
unfolding is_name
not_none zero e = let o : ◌≡◌ {A = ℕ} 0 1 = cc in absurd (omega arith)
not_none (suc k) e = omega arith

pub name-there : {ks : List ℕ} {i k : ℕ} → Peek ks i k → is_name k ≡ true → i < length ks
name-there {k = zero} p e = let n = not_none zero e in absurd (omega arith)
name-there {k = suc k} p e = there p refl

-- among the kinds of the code
pub name_inside : (ks : List TokenKind) {i k : ℕ} → Peek (kind_numbers ks) i k → is_name k ≡ true → i < length ks
name_inside ks {k = k} p e = inside ks p (not_none k e)

-- what the check looks for by itself
pub ruleset names = (name_inside)

-- what callers use
pub by_name : {ks : List ℕ} {i k : ℕ} (p : Peek ks i k) {q : Qualifiers} {next : ℕ} → k ≡ star → qualifiers_here (tokens ks []) (standing (i + 1) new_table) ≡ (q, standing next new_table) → is_plain_pointer ks i ≡ is_plain ks next
unfolding is_plain_pointer
by_name {ks} {i} p e f = rw (eq-eqb (get_or ks i 0) star (sym p.is ∙ e), f)
