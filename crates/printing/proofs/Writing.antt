-- How writes follow one another. Assumes nothing.
use mathlib.Core.Path.{◌≡◌, refl, sym, ap, ◌∙◌}
use mathlib.Core.List.{List, [], ◌∷◌, ◌++◌, append_assoc, append-nil}
use Prim.Native.Nat.{ℕ, ◌+◌, ◌≤◌, min}
use native.Mathlib.Omega.{arith}
use lib.ListN.{length, set, length-set}
use lib.Seq.{set_out}
use lib.Dec.{ltb}
use mathlib.Core.Bool.{Bool, true, false}
use borrow.Author.Tests.{ltb-true, ltb-false}
use Rattle.definition.specs.Text.{Bytes}
use Rattle.definition.specs.Byte.{space, line_feed}
use Rattle.definition.specs.Listing.{parted, line}
use Rattle.printing.specs.declared.Writer.{Writer}
use Rattle.printing.specs.Written.{Buffer, buffer, most_counted, counted, put, write, Wrote, Keeps, Writes, words, WritesWords}

write-append : (b : Buffer) (xs ys : Bytes) → write b (xs ++ ys) ≡ write (write b xs) ys
unfolding write
write-append b [] ys = refl
write-append b (x ∷ xs) ys = write-append (put b x) xs ys

length-write : (b : Buffer) (xs : Bytes) → length (write b xs).bytes ≡ length b.bytes
unfolding write
length-write b [] = refl
length-write b (x ∷ xs) = length-write (put b x) xs ∙ length-set b.bytes b.at x

-- one byte, where its place is or past the end
counted-is : (n m : ℕ) → n ≤ most_counted → m ≡ min (n + 1) most_counted → m ≡ counted n
unfolding counted
counted-is n m p e = by (ltb n most_counted) refl
  where
    by : (b : Bool) → ltb n most_counted ≡ b → m ≡ counted n
    by true h = let l = ltb-true n most_counted h in rw (h, counted) (omega arith)
    by false h = let l = ltb-false n most_counted h in rw (h, counted) (omega arith)

module _ (out : Bytes) (n x : ℕ) {m : ℕ} (p : n ≤ most_counted) (e : m ≡ min (n + 1) most_counted) where
  pub stored : Wrote (x ∷ []) out n (set out n x) m
  unfolding write
  stored = record { is = ap (λ k. buffer (set out n x) k) (counted-is n m p e) }

  pub counted_on : length out ≤ n → Wrote (x ∷ []) out n out m
  counted_on h = rw (set_out out n x h) at stored

-- nothing is written
pub nothing_there : {out : Bytes} {n : ℕ} → Wrote [] out n out n
unfolding write
nothing_there = record { is = refl }

module _ {xs o : Bytes} {n : ℕ} {o₁ : Bytes} {n₁ : ℕ} (p : Wrote xs o n o₁ n₁) where
  pub same_length : length o₁ ≡ length o
  same_length = ap (λ (b : Buffer). length b.bytes) p.is ∙ length-write (buffer o n) xs

  pub in_place : {ys : Bytes} → xs ≡ ys → Wrote ys o n o₁ n₁
  in_place e = rw e at p

  pub then_there : {ys o₂ : Bytes} {n₂ : ℕ} → Wrote ys o₁ n₁ o₂ n₂ → Wrote (xs ++ ys) o n o₂ n₂
  then_there {ys} q = record { is = q.is ∙ sym (write-append (buffer o n) xs ys ∙ ap (λ (b : Buffer). write b ys) (sym p.is)) }

-- the same with a writer
pub nothing : {o : Writer} → Writes [] o o
nothing = record { same = refl; wrote = nothing_there }

module _ {xs : Bytes} {o o₁ : Writer} (p : Writes xs o o₁) where
  pub as_is : {ys : Bytes} → xs ≡ ys → Writes ys o o₁
  as_is e = rw e at p

  pub then : {ys : Bytes} {o₂ : Writer} → Writes ys o₁ o₂ → Writes (xs ++ ys) o o₂
  then q = record { same = q.same ∙ p.same; wrote = then_there p.wrote q.wrote }

-- what a write keeps
pub keeps_still : {o : Writer} → Keeps o o
keeps_still = record { same = refl; long = refl }

pub keeps_written : {xs : Bytes} {o o₁ : Writer} → Writes xs o o₁ → Keeps o o₁
keeps_written p = record { same = p.same; long = same_length p.wrote }

pub keeps_both : {o o₁ o₂ : Writer} → Keeps o o₁ → Keeps o₁ o₂ → Keeps o o₂
keeps_both p q = record { same = q.same ∙ p.same; long = q.long ∙ p.long }

-- ---- lines

pub line-words : (w : Bytes) (vs : List Bytes) → parted w vs ≡ w ++ words vs
unfolding parted words
line-words w [] = sym (append-nil w)
line-words w (v ∷ vs) = ap (λ l. w ++ space ∷ l) (line-words v vs)

-- a line is its first word, the words after it, and a line feed
pub a-line : {w : Bytes} {vs : List Bytes} {o o₁ o₂ o₃ : Writer} → Writes w o o₁ → WritesWords vs o₁ o₂ → Writes (line_feed ∷ []) o₂ o₃ → Writes (line w vs) o o₃
unfolding line
a-line {w} {vs} p q r = as_is (then (then p q.written) r) (ap (λ l. l ++ line_feed ∷ []) (sym (line-words w vs)))

pub no_word : {o : Writer} → WritesWords [] o o
unfolding words
no_word = record { written = nothing }

pub a_word : {v : Bytes} {vs : List Bytes} {o o₁ o₂ : Writer} → Writes (space ∷ v) o o₁ → WritesWords vs o₁ o₂ → WritesWords (v ∷ vs) o o₂
unfolding words
a_word p q = record { written = then p q.written }

pub last_word : {v : Bytes} {o o₁ : Writer} → Writes (space ∷ v) o o₁ → WritesWords (v ∷ []) o o₁
last_word p = a_word p no_word

-- words in other terms
pub words_as : {us vs : List Bytes} {o o₁ : Writer} → WritesWords vs o o₁ → us ≡ vs → WritesWords us o o₁
words_as p e = rw e p

words_append : (us vs : List Bytes) → words (us ++ vs) ≡ words us ++ words vs
unfolding words
words_append [] vs = refl
words_append (u ∷ us) vs = ap (λ l. space ∷ l) (ap (λ l. u ++ l) (words_append us vs) ∙ sym (append_assoc u (words us) (words vs)))

-- a line without its end, and the rest of it
pub a_head : {w : Bytes} {vs : List Bytes} {o o₁ o₂ : Writer} → Writes w o o₁ → WritesWords vs o₁ o₂ → Writes (parted w vs) o o₂
a_head {w} {vs} p q = as_is (then p q.written) (sym (line-words w vs))

parted-append : (w : Bytes) (us vs : List Bytes) → parted w us ++ words vs ≡ parted w (us ++ vs)
parted-append w us vs =
    ap (λ l. l ++ words vs) (line-words w us)
    ∙ (append_assoc w (words us) (words vs) ∙ (ap (λ l. w ++ l) (sym (words_append us vs)) ∙ sym (line-words w (us ++ vs))))

pub line_after : (w : Bytes) (us : List Bytes) {vs : List Bytes} {o o₁ o₂ o₃ : Writer} → Writes (parted w us) o o₁ → WritesWords vs o₁ o₂ → Writes (line_feed ∷ []) o₂ o₃ → Writes (line w (us ++ vs)) o o₃
unfolding line
line_after w us {vs} p q r = as_is (then (then p q.written) r) (ap (λ l. l ++ line_feed ∷ []) (parted-append w us vs))
