-- A name that stands there, a value in range, and its entry. Assumes nothing.
use mathlib.Core.Path.{◌≡◌, refl, sym, ap, subst, ◌∙◌}
use mathlib.Core.Bool.{Bool, true, false, not}
use mathlib.Core.List.{List}
use Prim.Native.Nat.{ℕ, ◌<◌, ◌+◌}
use native.Mathlib.Omega.{arith}
use borrow.Author.Tests.{not-true, not-false, lt-ltb}
use lib.IntN.{ℤ, pos, negsuc}
use lib.ListN.{length, get_or}
use mir.Syntax.{w64}
use mir.Val.{SFits, to_z, of_z}
use mir.Facts.{to_z-of_z}
use Rattle.definition.specs.Answer.{got, refused}
use Rattle.definition.specs.Kind.{is_name}
use Rattle.definition.specs.Range.{above_range, in_range, ranged}
use Rattle.definition.specs.Refusal.{out_of_range}
use Rattle.definition.specs.Table.{mark_of, push_value}
use Rattle.table.specs.Reply.{Peek, Reply, Does}
use Rattle.table.specs.Store.{value_pushed}
use Rattle.table.specs.declared.Cursor.{Cursor}
use Rattle.std.specs.Prelude.{Option, Some, None, Result, Ok, Err}
use Rattle.std.specs.Option.{ok_or}
use Rattle.enumerator_values.specs.Pending.{pending}
use Rattle.lemmas.proofs.Branch.{yes}
use Rattle.constants.proofs.Steps.{name-there}
use Rattle.encoding.specs.Kinds.{kind_numbers}
use Rattle.encoding.specs.declared.token_kinds.TokenKind.{TokenKind}
use Rattle.table.proofs.Steps as Steps

-- the test of a token that was read
module _ {ks : List ℕ} {i k : ℕ} {b : Bool} (p : Peek ks i k) (e : b ≡ is_name k) where
  pub no_name_lem : not b ≡ true → is_name (get_or ks i 0) ≡ false
  no_name_lem q = ap is_name (sym p.is) ∙ (sym e ∙ not-true b q)

  pub a-name : not b ≡ false → is_name (get_or ks i 0) ≡ true
  a-name q = ap is_name (sym p.is) ∙ (sym e ∙ not-false b q)

-- a name is there
pub inside : (ks : List TokenKind) {i k : ℕ} {b : Bool} → Peek (kind_numbers ks) i k → b ≡ is_name k → not b ≡ false → i < length ks
inside ks p e q = Steps.inside ks p (name-there (sym e ∙ not-false _ q))

-- the number after the greatest, and a number of 64 bits
pub past-range : (at : ℕ) → ranged at (pos above_range) ≡ refused out_of_range at
unfolding ranged in_range
past-range at = refl

fits-range : (z : ℤ) → SFits w64 z → in_range z ≡ true
unfolding in_range
fits-range (pos n) f = lt-ltb n _ f.sfits
fits-range (negsuc n) f = lt-ltb n _ f.sfits

pub in_range_lem : (at : ℕ) (z : ℤ) → SFits w64 z → ranged at z ≡ got z
unfolding ranged
in_range_lem at z f = yes _ _ _ (fits-range z f)

-- the value that is pending: past the greatest, or kept as its 64 bits
pub passed : (at : ℕ) {n : Option ℤ} → n ≡ None → ranged at (pending n) ≡ refused out_of_range at
passed at q = ap (λ k. ranged at (pending k)) q ∙ past-range at

pub kept-range : (at : ℕ) {n : Option ℤ} {z : ℤ} → n ≡ Some z → SFits w64 z → ranged at (pending n) ≡ got (to_z w64 (of_z w64 z))
kept-range at q f = ap (λ k. ranged at (pending k)) q ∙ (in_range_lem at _ f ∙ ap got (sym (to_z-of_z f)))

-- the entry of an enumerator: the mark of its list, and the name of its token
pub entered : {c : Cursor} {w d w' d' ns : List ℕ} {v v' : List ℤ} {r : Reply ℕ} {n i : ℕ} (first : ℕ) (x : ℤ) → Peek ns i n → Does (value_pushed (1024 + first) n x) c w d v r w' d' v'
    → Does (push_value (record { row = mark_of first; name = get_or ns i 0; value = x })) c w d v r w' d' v'
unfolding mark_of
entered {c} {w} {d} {w'} {d'} {v = v} {v'} {r} first x p g = subst (λ z. Does (value_pushed (1024 + first) z x) c w d v r w' d' v') p.is g

-- what `ok_or` was given, from what it gave
pub some_by : {X E : Type 0} (o : Option X) (e : E) (x : X) → ◌≡◌ {A = Result X E} (Ok x) (ok_or o e) → o ≡ Some x
some_by (Some y) e x q = cc
some_by None e x q = let z : ◌≡◌ {A = ℕ} 0 1 = cc in absurd (omega arith)

pub none_by : {X E : Type 0} (o : Option X) (e z : E) → ◌≡◌ {A = Result X E} (Err z) (ok_or o e) → (o ≡ None) × (z ≡ e)
none_by (Some y) e z q = let z : ◌≡◌ {A = ℕ} 0 1 = cc in absurd (omega arith)
none_by None e z q = (refl, cc)
