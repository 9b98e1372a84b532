-- The log stands in no slice, a body's values are at least those before it, and a level's enumeration. Assumes nothing.
use mathlib.Core.Path.{◌≡◌, refl, ap, sym}
use mathlib.Core.List.{List, [], ◌∷◌}
use Prim.Native.Nat.{ℕ, zero, suc, ◌-◌, ◌≤◌}
use native.Mathlib.Omega.{arith}
use native.Mathlib.Nat.{le_refl}
use lib.Dec.{leb}
use lib.IntN.{ℤ}
use lib.ListN.{length, drop, length-append}
use Rattle.definition.specs.Answer.{Answer, got, refused, ◌>>=◌}
use Rattle.definition.specs.Refusal.{too_deep}
use Rattle.definition.specs.Kind.{is_name, close_brace, comma}
use Rattle.definition.specs.Limit.{max_values}
use Rattle.definition.specs.Token.{Tokens, kind_at, number_at}
use Rattle.definition.specs.Model.{Model}
use Rattle.definition.specs.Table.{Table, State, Value, Event, with_table, logged, skip, push_value}
use Rattle.definition.specs.Grammar.{Levels, stands}
use Rattle.definition.specs.Enumeration.{enum_bytes, values_since, close_enum, enumerator, enumerators_from, after_tag, enumeration₁}
use Rattle.definition.specs.Reader.{levels}
use Rattle.definition_laws.specs.Every.{Every}
use Rattle.definition_laws.proofs.Every.{got!, no!, bool!, then!, weaker!, any! }
use Rattle.definition_laws.proofs.SoundReader.{levels_sound, enumerator_value-leaves, needed-leaves}
use Rattle.table.specs.Ends.{Ends}
use Rattle.table.specs.Held.{state, Encodes, Held}
use Rattle.table.specs.Reply.{Reply, ok, Nothing, none, Shown, Shows, done, stop, both, Does, Moves, Peek}
use Rattle.table.specs.declared.Cursor.{Cursor}
use Rattle.table.proofs.Branch.{by, via, halt}
use Rattle.table.proofs.Shown.{went}
use Rattle.table.proofs.Shown as Shown
use Rattle.body_rows.proofs.Logs.{logged-on}
use Rattle.encoding.proofs.TokenKinds.{apart}
use Rattle.encoding.specs.Kinds.{kind_number}
use Rattle.encoding.specs.declared.token_kinds.TokenKind.{TokenKind}
use Rattle.enumerators.specs.Doing.{enumerators_here}

-- a call, noted in the log: its answer is returned as it is
module _ {a : Answer (ℕ × State)} {r : Reply ℕ} {w d : List ℕ} {v : List ℤ} (e : Event) where
  noted' : Shown both a r w d v → Shows both (a >>= λ x. got (x.0, with_table x.1 (logged x.1.table e))) r w d v
  noted' (done t c i p q h) = via _ p (record { ends = done _ _ _ refl q (logged-on e h) })
  noted' (stop n p q z l) = halt _ q (Shown.no_left l z)

  pub noted : Shows both a r w d v → Shows both (a >>= λ x. got (x.0, with_table x.1 (logged x.1.table e))) r w d v
  noted h = noted' h.ends

-- ---- the values of a body come after those that there were

push_value-more : (e : Value) (s : State) → Every (λ (x : ℕ × State). length s.table.values ≤ length x.1.table.values) (push_value e s)
unfolding push_value
push_value-more e s = bool! (leb max_values (length s.table.values)) no! (got! (let n = length-append s.table.values (e ∷ []) in omega arith))

module _ (ts : Tokens) (m : Model) (room : ℕ) where
  enumerator-more : (first : ℕ) (value : ℤ) (s : State) → Every (λ (x : ℤ × State). length s.table.values ≤ length x.1.table.values) (enumerator ts m (levels ts m room) first value s)
  unfolding enumerator
  enumerator-more first value s = bool! (is_name (kind_at ts s.at))
      (then! _ _ (enumerator_value-leaves ts m _ (levels_sound ts m room) value (skip s)) λ u e. then! _ _ any! λ x i.
      then! _ _ (push_value-more _ u.1) λ y j. got! (let k = ap (λ (t : Table). length t.values) e in omega arith))
      no!

  pub enumerators_more : (f first : ℕ) (value : ℤ) (s : State) → Every (λ (x : State). length s.table.values ≤ length x.table.values) (enumerators_from ts m (levels ts m room) f first value s)
  unfolding enumerators_from
  enumerators_more zero first value s = no!
  enumerators_more (suc f) first value s = bool! (stands ts close_brace s) (got! (le_refl _))
      (then! _ _ (enumerator-more first value s) λ e h. bool! (stands ts comma e.1)
      (weaker! (enumerators_more f first _ (skip e.1)) (λ x j. omega arith))
      (weaker! (needed-leaves ts close_brace e.1) (λ x i. rw i h)))

-- as the cursors count them
pub more-values : {c e : Cursor} {w d w' d' : List ℕ} {v v' : List ℤ} {r : Reply Nothing} (ts : Tokens) (m : Model) (room : ℕ)
    → Moves (enumerators_here ts m (levels ts m room)) c w d v r w' d' v' → Held c w d v → r ≡ ok e none → c.values ≤ e.values
more-values {c} ts m room g h q =
    let k = went (g.run h.table h.encodes) q in
    let l = (enumerators_more ts m room _ _ _ (state c h.table)).of _ k.says in
    let a = h.encodes.counts.values in
    let b = k.holds.counts.values in
    omega arith

-- a body's values are those after the ones that there were
pub closes : {e : Cursor} {w d w' d' : List ℕ} {v v' : List ℤ} {r : Reply ℕ} {t₁ : Table} {first last bytes n : ℕ} (m : Model) (name : ℕ)
    → first ≡ n → bytes ≡ enum_bytes m (drop first t₁.values) → last ≡ length t₁.values → Does (close_enum name bytes (record { first = first; count = last - first })) e w d v r w' d' v' → Encodes t₁ e w d v
    → Shows both (close_enum name (enum_bytes m (drop n t₁.values)) (values_since n t₁) (state e t₁)) r w' d' v'
closes {e} {t₁ = t₁} {first} {last} {bytes} m name p q z g h =
    by (ap (λ (i : ℕ). close_enum name (enum_bytes m (drop i t₁.values)) (values_since i t₁) (state e t₁)) (sym p))
    (by (ap (λ (b : ℕ). close_enum name b (values_since first t₁) (state e t₁)) (sym q))
    (by (ap (λ (k : ℕ). close_enum name bytes (record { first = first; count = k - first }) (state e t₁)) (sym z)) (g.run t₁ h)))

-- the tag's name as it was read
pub tagged : {Q : Answer (ℕ × State) → Type 0} {at n : ℕ} (ts : Tokens) (m : Model) (next : Levels) (s : State) → Peek ts.numbers at n → Ends Q (after_tag ts m next n at s)
    → Ends Q (after_tag ts m next (number_at ts at) at s)
tagged {at = at} ts m next s p h = by (ap (λ (z : ℕ). after_tag ts m next z at s) (sym p.is)) h

-- a kind that is not j has another number
pub another : (k j : TokenKind) → (k ≡ j → ⊥) → kind_number k ≡ kind_number j → ⊥
another k j n e = apart k j n e

-- ---- a level's enumeration: refused where no level is left

module _ (ts : Tokens) (m : Model) {room : ℕ} (s : State) where
  pub no_level : room ≡ 0 → (levels ts m room).enumeration s ≡ refused too_deep s.at
  unfolding levels
  no_level e = rw e

  pub a-level : (room ≡ 0 → ⊥) → (levels ts m room).enumeration s ≡ enumeration₁ ts m (levels ts m (room - 1)) s
  unfolding levels
  a-level e = let h : room ≡ suc (room - 1) = omega arith in ap (λ k. (levels ts m k).enumeration s) h
