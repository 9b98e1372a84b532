-- Sizes as the code tells them, and as many of them as a bound says, for any limit of the code's numbers. Assumes nothing.
use mathlib.Core.Path.{◌≡◌, refl, sym, ◌∙◌}
use mathlib.Core.Option.{Option, none, some}
use Prim.Native.Nat.{ℕ, zero, suc, ◌*◌, ◌^◌, ◌<◌, ◌≤◌}
use native.Mathlib.Omega.{arith}
use Rattle.definition.specs.Size.{times}
use Rattle.arithmetic.proofs.Limit.{below, past, either}
use Rattle.size_align.specs.declared.Size.{Size}
use Rattle.size_align.specs.declared.Size.TheVariants.{Known, Big, Unknown}
use Rattle.size_align.specs.Measure.{told_below, told}

pub unknown! : (limit : ℕ) {o : Option ℕ} → o ≡ none → Unknown ≡ told_below limit o
unfolding told_below
unknown! limit e = rw e

pub known! : {limit : ℕ} (x : ℕ) → x < limit → Known x ≡ told_below limit (some x)
unfolding told_below
known! {limit} x p = sym (below limit x _ _ p)

pub big! : {limit : ℕ} (x : ℕ) → limit ≤ x → Big ≡ told_below limit (some x)
unfolding told_below
big! {limit} x p = sym (past limit x _ _ p)

-- which size is told so
pub data ViewBelow (limit : ℕ) : Option ℕ → Size → Type 0 where
  unknown : ViewBelow limit none Unknown
  known : (x : ℕ) → x < limit → ViewBelow limit (some x) (Known x)
  big : (x : ℕ) → limit ≤ x → ViewBelow limit (some x) Big

view : (limit : ℕ) (o : Option ℕ) → ViewBelow limit o (told_below limit o)
unfolding told_below
view limit none = unknown
view limit (some x) = either limit x (Known x) Big (λ s. ViewBelow limit (some x) s) (known x) (big x)

abbrev pub View : Option ℕ → Size → Type 0
View = ViewBelow (2 ^ 64)

pub seen : {s : Size} (o : Option ℕ) → s ≡ told o → View o s
seen o h = rw h (view (2 ^ 64) o)

-- ---- as many as a bound says

-- of a size that is told
abbrev pub many : ℕ → Size → ℕ → Size
many limit Unknown bound = Unknown
many limit (Known a) bound = told_below limit (some (a * bound))
many limit Big zero = Known 0
many limit Big (suc k) = Big

pub none-known : {limit bound : ℕ} (a : ℕ) → 0 < limit → bound ≡ 0 → Known 0 ≡ told_below limit (some (a * bound))
none-known a z e = let f : a * 0 ≡ 0 = omega arith in rw (e, f) (known! 0 z)

pub some-big : (limit bound : ℕ) → (bound ≡ 0 → ⊥) → Big ≡ many limit Big bound
some-big limit zero e = absurd (e refl)
some-big limit (suc k) e = refl

-- is what is told of as many of the exact size
many-told : {limit : ℕ} {o : Option ℕ} {s : Size} → 0 < limit → ViewBelow limit o s → (bound : ℕ) → many limit s bound ≡ told_below limit (times o bound)
many-told z unknown bound = unknown! _ refl
many-told z (known x p) bound = refl
many-told z (big x p) zero = none-known x z refl
many-told z (big x p) (suc k) = big! (x * suc k) (omega arith)

pub times-is : {r s t : Size} (o : Option ℕ) → s ≡ told o → (bound : ℕ) → s ≡ t → r ≡ many (2 ^ 64) t bound → r ≡ told (times o bound)
times-is o h bound e f = f ∙ many-told (omega arith) (seen o (sym e ∙ h)) bound
