-- Steps one after the other, and lists that begin past the last parameter. Assumes nothing.
use mathlib.Core.Path.{◌≡◌, refl, sym, ap, ◌∙◌}
use mathlib.Core.Bool.{Bool, true, false, ◌||◌}
use mathlib.Core.Option.{Option, some}
use mathlib.Core.List.{List, [], ◌∷◌}
use Prim.Native.Nat.{ℕ, suc, ◌+◌, ◌*◌, ◌-◌, ◌≤◌, ◌<◌}
use mir.Val.{bool_byte}
use native.Mathlib.Omega.{arith}
use lib.Dec.{eqb, leb}
use lib.IntN.{ℤ}
use lib.ListN.{length}
use Rattle.definition.specs.Answer.{Answer, got, refused, ◌>>=◌}
use Rattle.definition.specs.Refusal.{impossible_type}
use Rattle.definition.specs.RowKind.{void_kind, array_kind, function_kind}
use Rattle.definition.specs.Row.{Row, pointer, array, function, kind_of, target_of, flags_of, row_name, span_of, extent_of, Span}
use Rattle.definition.specs.Table.{Parameter, Table, State, mark_of}
use Rattle.definition.specs.Types.{add, qualify, same_numbers, same_parameter, pairwise, parameters_of, same_entries, same_row, equal_row, resolved_kind}
use Rattle.definition.specs.Grammar.{DeclaratorStep, pointer_step, array_step, function_step}
use Rattle.definition.specs.Declarator.{add_function, returned, apply}
use Rattle.definition_laws.proofs.Carrying.{carry_end}
use Rattle.table.specs.Ends.{Ends}
use Rattle.table.specs.Held.{state, Encodes}
use Rattle.table.proofs.Branch.{by}
use Rattle.table.specs.Reply.{numbers}
use Rattle.table.specs.declared.Cursor.{Cursor}
use Rattle.table.specs.declared.Numbers.{Numbers}
use Rattle.declarator_steps.specs.Pending.{steps_from}
use Rattle.lemmas.specs.Options.{option}
use Rattle.std.specs.Prelude.{Option as StdOption, Some, None, is_some, unwrap_or, min}
use Rattle.std.proofs.Math.Nat.{min-eq_left}
use borrow.Author.Tests.{leb-true, leb-false}

-- an array's row, by its bound
pub array_numbers : (element : ℕ) (o : StdOption ℕ)
    → ◌≡◌ {A = Numbers} (record { kind = 5; target = element; flags = bool_byte (is_some o); name = 0; first = 0; count = 0; extent = unwrap_or o 0 }) (numbers (array element (option o)))
unfolding kind_of target_of flags_of row_name span_of extent_of
array_numbers element (Some n) = refl
array_numbers element None = refl

-- a function's row, by what it returns and whether it takes `...`
pub function_numbers : (o : StdOption ℕ) (v : Bool) (first count : ℕ)
    → ◌≡◌ {A = Numbers} (record { kind = 9; target = unwrap_or o 0; flags = bool_byte (is_some o) + 2 * bool_byte v; name = 0; first = first; count = count; extent = 0 })
    (numbers (function (option o) v (record { first = first; count = count })))
unfolding kind_of target_of flags_of row_name span_of extent_of
function_numbers (Some n) true first count = refl
function_numbers (Some n) false first count = refl
function_numbers None true first count = refl
function_numbers None false first count = refl

-- ---- a step, and those after it

-- nothing after it
pub one_more : (a : Answer (ℕ × State)) → (a >>= λ r. apply [] r.0 r.1) ≡ a
unfolding ◌>>=◌ apply
one_more (got x) = refl
one_more (refused n p) = refl

module _ {A : Type 0} (k : ℕ × State → Answer A) where
  then_one : (a : Answer (ℕ × State)) → ◌≡◌ {A = Answer A} (a >>= k) ((a >>= λ r. apply [] r.0 r.1) >>= k)
  unfolding ◌>>=◌ apply
  then_one (got x) = refl
  then_one (refused n p) = refl

  then-two : (f : ℕ × State → Answer (ℕ × State)) (a : Answer (ℕ × State))
      → ◌≡◌ {A = Answer A} (a >>= λ p. f p >>= k) ((a >>= λ p. f p >>= λ r. apply [] r.0 r.1) >>= k)
  unfolding ◌>>=◌
  then-two f (got x) = then_one (f x)
  then-two f (refused n p) = refl

  then-test : (b : Bool) (n p : ℕ) (a : Answer (ℕ × State))
      → ◌≡◌ {A = Answer A} (elim b as (λ z. Answer A) [ true ↦ refused n p | false ↦ a >>= k ])
      ((elim b as (λ z. Answer (ℕ × State)) [ true ↦ refused n p | false ↦ a >>= λ r. apply [] r.0 r.1 ]) >>= k)
  unfolding ◌>>=◌
  then-test true n p a = refl
  then-test false n p a = then_one a

-- "Each step is taken in turn."
pub apply-on : (x : DeclaratorStep) (xs : List DeclaratorStep) (b : ℕ) (s : State) → apply (x ∷ xs) b s ≡ (apply (x ∷ []) b s >>= λ r. apply xs r.0 r.1)
unfolding apply
apply-on (pointer_step q) xs b s = then-two (λ r. apply xs r.0 r.1) (λ p. qualify q p.0 p.1) (add (pointer b) s)
apply-on (array_step n) xs b s = then-test (λ r. apply xs r.0 r.1) (eqb (resolved_kind s.table b) void_kind) impossible_type s.at (add (array b n) s)
apply-on (function_step v e) xs b s =
    then-test (λ r. apply xs r.0 r.1) (eqb (resolved_kind s.table b) array_kind || eqb (resolved_kind s.table b) function_kind) impossible_type s.at (add_function (returned s.table b) v e s)

-- the answer a is what the first i entries of the steps make of a row from here
pub record Applying (ks os : List ℕ) (i : ℕ) (c : Cursor) (row : ℕ) (w d : List ℕ) (v : List ℤ) (a : Answer (ℕ × State)) : Type 0 where
  pub table : Table
  pub holds : Encodes table c w d v
  pub same : a ≡ apply (steps_from ks os i) row (state c table)

module _ {ks os : List ℕ} {i : ℕ} {c : Cursor} {row : ℕ} {w d : List ℕ} {v : List ℤ} where
  pub applies : {t : Table} → Encodes t c w d v → Ends (Applying ks os i c row w d v) (apply (steps_from ks os i) row (state c t))
  applies h = record { ends = record { table = _; holds = h; same = refl } }

  -- the step before entry i, and then those before it
  pub round : {Q : Answer (ℕ × State) → Type 0} {a : Answer (ℕ × State)} {x y : DeclaratorStep} → Ends (Applying ks os i c row w d v) a → 0 < i
      → x ≡ y → steps_from ks os (i - 1 + 1) ≡ y ∷ steps_from ks os (i - 1)
      → ((t : Table) → Encodes t c w d v → Ends Q (apply (x ∷ []) row (state c t) >>= λ r. apply (steps_from ks os (i - 1)) r.0 r.1)) → Ends Q a
  round {x = x} r p e f k =
      let g = r.ends in
      let n : i ≡ i - 1 + 1 = omega arith in
      by (g.same ∙ (ap (λ m. apply (steps_from ks os m) row (state c g.table)) n
      ∙ (ap (λ l. apply l row (state c g.table)) (f ∙ ap (λ z. z ∷ steps_from ks os (i - 1)) (sym e)) ∙ apply-on x (steps_from ks os (i - 1)) row (state c g.table))))
      (k g.table g.holds)

  -- no step is left
  pub finished : {Q : Answer (ℕ × State) → Type 0} {a : Answer (ℕ × State)} → Ends (Applying ks os i c row w d v) a → i ≤ 0
      → ((t : Table) → Encodes t c w d v → Ends Q (got (row, state c t))) → Ends Q a
  unfolding steps_from apply
  finished r p k =
      let g = r.ends in
      let n : i ≡ 0 = omega arith in
      by (g.same ∙ ap (λ m. apply (steps_from ks os m) row (state c g.table)) n) (k g.table g.holds)

-- ---- lists that begin past the last parameter

abbrev span : ℕ → ℕ → Span
span first count = record { first = first; count = count }

either : {p q : Bool} {y z : Option ℕ} (n : ℕ) → p ≡ q → y ≡ z
    → ◌≡◌ {A = Option ℕ} (elim p as (λ b. Option ℕ) [ true ↦ some n | false ↦ y ]) (elim q as (λ b. Option ℕ) [ true ↦ some n | false ↦ z ])
either {p} {q} {y} {z} n e f = ap (λ b. elim b as (λ x. Option ℕ) [ true ↦ some n | false ↦ y ]) e ∙ ap (λ o. elim q as (λ x. Option ℕ) [ true ↦ some n | false ↦ o ]) f

module _ (t : Table) (returns : Option ℕ) (varargs : Bool) (count : ℕ) where
  none-there : (first : ℕ) → length t.parameters ≤ first → parameters_of t (mark_of first) (span first count) ≡ []
  none-there first p = carry_end (λ (x : Parameter). x.row) t.parameters (mark_of first) count first p

  module _ (a b : ℕ) (e : parameters_of t (mark_of a) (span a count) ≡ parameters_of t (mark_of b) (span b count)) where
    near_row : (n : ℕ) (x : Row) → same_row t (function returns varargs (span a count)) n x ≡ same_row t (function returns varargs (span b count)) n x
    unfolding same_row same_numbers same_entries kind_of target_of flags_of row_name span_of extent_of
    near_row n x = ap (λ l. elim (same_numbers (function returns varargs (span a count)) x) as (λ z. Bool) [ true ↦ pairwise same_parameter l (parameters_of t n (span_of x)) | false ↦ false ]) e

    near_rows : (n : ℕ) (xs : List Row) → equal_row t (function returns varargs (span a count)) n xs ≡ equal_row t (function returns varargs (span b count)) n xs
    unfolding equal_row
    near_rows n [] = refl
    near_rows n (x ∷ xs) = either n (near_row n x) (near_rows (suc n) xs)

  pub near_equal : (first : ℕ) {near : ℕ} → near ≡ min first 4096 → length t.parameters ≤ 4096 → (n : ℕ) (xs : List Row)
      → equal_row t (function returns varargs (span near count)) n xs ≡ equal_row t (function returns varargs (span first count)) n xs
  near_equal first {near} q l n xs = go (leb first 4096) refl
    where
      go : (z : Bool) → leb first 4096 ≡ z → equal_row t (function returns varargs (span near count)) n xs ≡ equal_row t (function returns varargs (span first count)) n xs
      go true e = let p : first ≤ 4096 = leb-true _ _ e in ap (λ z. equal_row t (function returns varargs (span z count)) n xs) (q ∙ min-eq_left p)
      go false e = let p : 4096 < first = leb-false _ _ e in near_rows _ _ (none-there _ (omega arith) ∙ sym (none-there _ (omega arith))) n xs
