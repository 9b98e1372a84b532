-- Laws of the parts that `windows` gives, and of a comment that is searched by them. Assumes nothing.
use mathlib.Core.Path.{◌≡◌, refl, sym, ap, ◌∙◌}
use mathlib.Core.Bool.{Bool, true, false}
use mathlib.Core.List.{List, [], ◌∷◌}
use Prim.Native.Nat.{ℕ, zero, suc, ◌+◌, ◌-◌, ◌<◌}
use native.Mathlib.Omega.{arith}
use borrow.Author.Tests.{eq-eqb, eqb-true, lt-leb}
use mathlib.Mathlib.Data.Bool.Basic.{or_inr}
use lib.Dec.{eqb}
use lib.ListN.{length, get_or, take, drop, length-drop}
use Rattle.std.specs.Prelude.{Option, Some, None, MatchOption}
use Rattle.std.specs.List.{AllWithin, HoldsAt}
use Rattle.std.specs.Option.{unwrap_or}
use Rattle.std.specs.Iterator.{AlwaysYields}
use Rattle.std.specs.Slice.Iter.{windows_rest, windows_size, windows_steps}
use Rattle.std.specs.declared.slice.Windows.{Windows}
use Rattle.std.proofs.lemmas.Iterator.{YieldsList}
use Rattle.definition.specs.Text.{Bytes}
use Rattle.definition.specs.Scan.{begins, before}
use Rattle.definition.specs.Comment.{ends_comment}
use Rattle.lemmas.proofs.Truth.{not_first, not_second, neither}
use Rattle.scan.proofs.Going.{stopped-at, going-at}

-- a part of n bytes for each element of t, the first from the start, each next from a byte further
unfoldable pub parts : ℕ → Bytes → Bytes → List Bytes
parts n bs [] = []
parts n bs (x ∷ t) = take n bs ∷ parts n (drop 1 bs) t

gives : (n : ℕ) (bs t : Bytes) (s : Windows ℕ) → 0 < n → windows_size s ≡ n → windows_rest s ≡ bs → length t ≡ length bs + 1 - n → AlwaysYields (windows_steps {A = ℕ}) (λ y. y.now) s (parts n bs t)
unfolding parts
gives n bs [] s z e f l = λ x j p. (let k = p.1.0 in absurd (omega (arith, ap length f)))
gives n bs (c ∷ t) s z e f l = (
  λ j p. (let k = p.1.0 in omega (arith, ap length f)),
  λ x j p. (rw (e, f) at p.1.1, gives n (drop 1 bs) t j z (p.0 ∙ e) (p.1.2 ∙ rw f) (rw (length-drop 1 bs) (omega arith))),
)

-- what `windows` gives of bytes
abbrev pub windows : ℕ → Bytes → List Bytes
windows n bs = parts n bs (drop (n - 1) bs)

pub YieldsList-from_windows : {s : Windows ℕ} (n : ℕ) (bs : Bytes) → 0 < n → windows_size s ≡ n → windows_rest s ≡ bs → YieldsList (windows_steps {A = ℕ}) (λ y. y.now) s (windows n bs)
YieldsList-from_windows {s} n bs z e f = record { runs = gives n bs (drop (n - 1) bs) s z e f (rw (length-drop (n - 1) bs) (omega arith)) }

-- two bytes that close a comment, and two that don't
abbrev pub Close : Bytes → Type 0
Close w = (get_or w 0 0 ≡ 42) × (get_or w 1 0 ≡ 47)

abbrev pub Goes : Bytes → Type 0
Goes w = length w ≡ 2 → get_or w 0 0 ≡ 42 → get_or w 1 0 ≡ 47 → ⊥

at_close : (a b : ℕ) (bs : Bytes) → Close (a ∷ b ∷ []) → ends_comment (a ∷ (b ∷ bs)) ≡ true
unfolding ends_comment begins
at_close a b bs y = rw (eq-eqb a 42 y.0, eq-eqb b 47 y.1)

going_on : (a b : ℕ) (bs : Bytes) → Goes (a ∷ b ∷ []) → ends_comment (a ∷ (b ∷ bs)) ≡ false
unfolding ends_comment begins
going_on a b bs n = by (eqb a 42) refl (eqb b 47) refl
  where
    by : (t : Bool) → eqb a 42 ≡ t → (u : Bool) → eqb b 47 ≡ u → ends_comment (a ∷ (b ∷ bs)) ≡ false
    by false p u q = neither (not_first _ p) (lt-leb _ _ (omega arith))
    by true p false q = neither (not_second (eqb a 42) q) (lt-leb _ _ (omega arith))
    by true p true q = absurd (n refl (eqb-true a 42 p) (eqb-true b 47 q))

-- where the first two stand that close it; the last byte where none do
before_none : before ends_comment [] ≡ 0
unfolding before
before_none = refl

at_last : (a : ℕ) → before ends_comment (a ∷ []) ≡ 0
unfolding ends_comment
at_last a = stopped-at ends_comment a [] (or_inr (begins 42 47 (a ∷ [])) true refl)

none_close : (bs : Bytes) → AllWithin Goes (windows 2 bs) 0 (length (windows 2 bs)) → length bs - 1 ≡ before ends_comment bs
unfolding parts
none_close [] f = sym before_none
none_close (a ∷ []) f = sym (at_last a)
none_close (a ∷ (b ∷ bs)) f =
    let g = none_close (b ∷ bs) (λ k d l m. f (suc k) d (omega arith) (omega arith)) in
    let h = going-at ends_comment a (b ∷ bs) (going_on a b bs (f 0 [] (omega arith) (omega arith))) in omega arith

first_closes : (bs : Bytes) (n : ℕ) → n < length (windows 2 bs) → HoldsAt Close (windows 2 bs) n → AllWithin Goes (windows 2 bs) 0 n → n ≡ before ends_comment bs
unfolding parts
first_closes [] n l y f = absurd (omega arith)
first_closes (a ∷ []) n l y f = absurd (omega arith)
first_closes (a ∷ (b ∷ bs)) zero l y f = sym (stopped-at ends_comment a (b ∷ bs) (at_close a b bs (y [])))
first_closes (a ∷ (b ∷ bs)) (suc n) l y f =
    ap suc (first_closes (b ∷ bs) n (omega arith) (λ d. y d) (λ k d m q. f (suc k) d (omega arith) (omega arith)))
    ∙ sym (going-at ends_comment a (b ∷ bs) (going_on a b bs (f 0 [] (omega arith) (omega arith))))

pub closes_first : (bs : Bytes) (r : Option ℕ)
    → MatchOption r (AllWithin Goes (windows 2 bs) 0 (length (windows 2 bs))) (λ n. (n < length (windows 2 bs)) × HoldsAt Close (windows 2 bs) n × AllWithin Goes (windows 2 bs) 0 n)
    → unwrap_or r (length bs - 1) ≡ before ends_comment bs
closes_first bs None f = none_close bs f
closes_first bs (Some n) f = first_closes bs n f.0 f.1 f.2
