-- The names among the tokens of a text are together no longer than the text. Assumes nothing.
use mathlib.Core.Path.{◌≡◌, refl}
use mathlib.Core.Bool.{Bool, true, false, ◌&&◌}
use mathlib.Core.List.{List, [], ◌∷◌, ◌++◌, map}
use Prim.Native.Nat.{ℕ, zero, suc, ◌+◌, ◌≤◌, ◌<◌}
use native.Mathlib.Omega.{arith}
use native.Mathlib.Nat.{le_refl}
use lib.Dec.{eqb, leb, ltb}
use lib.ListN.{length, length-drop}
use borrow.Author.Tests.{leb-false, ltb-false}
use Rattle.definition.specs.Answer.{Answer}
use Rattle.definition.specs.Limit.{max_text}
use Rattle.definition.specs.Text.{Bytes, byte_at, same}
use Rattle.definition.specs.Byte.{line_feed, hash, apostrophe, quote}
use Rattle.definition.specs.Class.{letter, digit, class_of, is_blank}
use Rattle.definition.specs.Scan.{from, first}
use Rattle.definition.specs.Comment.{joins, opens_line_comment, opens_comment}
use Rattle.definition.specs.Directive.{directive, is_macro, ends_word}
use Rattle.definition.specs.Attribute.{Attribute}
use Rattle.definition.specs.Mark.{mark_at}
use Rattle.definition.specs.Name.{no_name, name_of, length_of}
use Rattle.definition.specs.Spelling.{Spelling, known_name}
use Rattle.definition.specs.Token.{Token, Tokens, Lexed, columns, kind_at, number_at}
use Rattle.definition.specs.Kind as kind
use Rattle.definition.specs.Cut.{Cutting, skip_to, new_line, drop_to, push, meet, push_name, push_attribute, cut_word_of, word_at, cut_word, cut_number, cut_character, cut_string, cut_mark, cut_token, cut_directive, cut_comment, cut_other, cut_next, cut_all, start, cut, tokenize}
use Rattle.definition_laws.specs.Every.{Every}
use Rattle.definition_laws.proofs.Every.{got!, no!, bool!, test!, then!, any! }
use Rattle.definition_laws.proofs.LexerProgress.{before_le, run_length}
use Rattle.definition_laws.proofs.Spaced.{new, old, Step, skip, token, name, cut_next-step}
use Rattle.listing_length.specs.Weight.{sum_of}
use Rattle.listing_length.proofs.Sums.{sum-push, if_so}

-- ---- the tokens by their numbers

-- the bytes of the names that stand before token i
unfoldable pub read : Tokens → ℕ → ℕ
read ts zero = 0
read ts (suc i) = read ts i + if_so (kind.is_name (kind_at ts i)) (length_of (number_at ts i))

abbrev token_bytes : Token → ℕ
token_bytes t = if_so (kind.is_name t.kind) (length_of t.number)

abbrev spelt : List Token → ℕ
spelt ts = sum_of token_bytes ts

abbrev tokens_of : List Token → Tokens
tokens_of ts = record { kinds = map (λ t. t.kind) ts; numbers = map (λ t. t.number) ts }

read_none : (i : ℕ) → read (tokens_of []) i ≡ 0
unfolding read kind.is_name
read_none zero = refl
read_none (suc i) = let h = read_none i in omega arith

read-cons : (t : Token) (ts : List Token) (i : ℕ) → read (tokens_of (t ∷ ts)) (suc i) ≡ token_bytes t + read (tokens_of ts) i
unfolding read
read-cons t ts zero = omega arith
read-cons t ts (suc i) = let h = read-cons t ts i in omega arith

zero-read : (ts : Tokens) → read ts 0 ≡ 0
unfolding read
zero-read ts = refl

read-spelt : (ts : List Token) (i : ℕ) → read (tokens_of ts) i ≤ spelt ts
unfolding sum_of
read-spelt [] i = omega (arith, read_none i)
read-spelt (t ∷ ts) zero = omega (arith, zero-read (tokens_of (t ∷ ts)))
read-spelt (t ∷ ts) (suc i) = let h = read-spelt ts i in omega (arith, read-cons t ts i)

-- ---- a step

-- first places are below the factor of a name's length
data Placed : List Spelling → Type 0 where
  nil : Placed []
  also : {x : Spelling} {xs : List Spelling} → x.offset < 65536 → Placed xs → Placed (x ∷ xs)

placed-more : {xs : List Spelling} (x : Spelling) → Placed xs → x.offset < 65536 → Placed (xs ++ x ∷ [])
placed-more x nil p = also p nil
placed-more x (also q h) p = also q (placed-more x h p)

name-length : (at n : ℕ) → at < 65536 → length_of (name_of at n) ≤ n
unfolding length_of name_of
name-length at n p = omega arith

-- a name that was given to a word is as long as the word
known-length : (xs : List Spelling) (w : Bytes) → Placed xs → length_of (known_name xs w) ≤ length w
unfolding known_name length_of
known-length [] w nil = omega arith
known-length (x ∷ xs) w (also p h) = go (same x.spelling w) (known-length xs w h)
  where
    go : (b : Bool) → length_of (known_name xs w) ≤ length w → length_of (elim b as (λ z. ℕ) [ true ↦ name_of x.offset (length w) | false ↦ known_name xs w ]) ≤ length w
    go true k = name-length x.offset (length w) p
    go false k = k

-- no name more, or one that takes k bytes of the text
data Told (text : Bytes) (s s' : Cutting) : Type 0 where
  none : spelt s'.tokens ≡ spelt s.tokens → Told text s s'
  word : (k : ℕ) → spelt s'.tokens ≤ spelt s.tokens + k → s'.at ≡ s.at + k → s.at + k ≤ length text → Told text s s'

abbrev Tells : Bytes → Cutting → Answer Cutting → Type 0
Tells text s r = Every (Told text s) r

if_so_within : (b : Bool) (n : ℕ) → if_so b n ≤ n
if_so_within true n = le_refl _
if_so_within false n = omega arith

module _ (text : Bytes) (s : Cutting) where
  -- a token without a number
  plain : (k next : ℕ) → Told text s (push k 0 next s)
  unfolding push length_of
  plain k next = let h = sum-push token_bytes s.tokens (record { kind = k; place = s.at; number = 0 }) in let b = if_so_within (kind.is_name k) (length_of 0) in none (omega arith)

  number : (v next : ℕ) → Told text s (push kind.number v next s)
  unfolding push kind.is_name
  number v next = let h = sum-push token_bytes s.tokens (record { kind = kind.number; place = s.at; number = v }) in none (omega arith)

  attributed : (a : Attribute) → Told text s (push_attribute a s)
  unfolding push_attribute drop_to
  attributed a = go a.layout
    where
      go : (b : Bool) → Told text s (elim b as (λ z. Cutting) [ true ↦ push kind.attribute 0 a.next s | false ↦ drop_to a.next s ])
      go true = plain kind.attribute a.next
      go false = none refl

  module _ (short : s.at < 65536) (h : Placed s.names) where
    named : (k : ℕ) (w : Bytes) → s.at + length w ≤ length text → Told text s (push_name k w s)
    unfolding push_name push meet
    named k w l = go (eqb (known_name s.names w) no_name)
      where
        longer : (n : ℕ) → length_of n ≤ length w → spelt (s.tokens ++ record { kind = k; place = s.at; number = n } ∷ []) ≤ spelt s.tokens + length w
        longer n p = omega (arith, sum-push token_bytes s.tokens (record { kind = k; place = s.at; number = n }), if_so_within (kind.is_name k) (length_of n))

        go : (b : Bool) → Told text s (elim b as (λ z. Cutting) [ true ↦ push k (name_of s.at (length w)) (s.at + length w) (meet w s) | false ↦ push k (known_name s.names w) (s.at + length w) s ])
        go true = word (length w) (longer (name_of s.at (length w)) (name-length s.at (length w) short)) refl l
        go false = word (length w) (longer (known_name s.names w) (known-length s.names w h)) refl l

    cut_word_of-told : (k : ℕ) (w : Bytes) → s.at + length w ≤ length text → Tells text s (cut_word_of text k w s)
    unfolding cut_word_of
    cut_word_of-told k w l = bool! (eqb k kind.attribute) (then! _ _ any! λ a h. got! (attributed a))
        (bool! (kind.is_name k) (got! (named k w l)) (got! (plain k (s.at + length w))))

    cut_word-told : s.at < length text → Tells text s (cut_word text s)
    unfolding cut_word word_at
    cut_word-told l = let n = run_length text s.at ends_word in let m = before_le ends_word (from text s.at) in
        cut_word_of-told _ _ (omega (arith, length-drop s.at text))

    cut_token-told : s.at < length text → Tells text s (cut_token text s)
    unfolding cut_token cut_number cut_character cut_string cut_mark
    cut_token-told l = bool! (eqb (class_of (byte_at text s.at)) letter) (cut_word-told l) (bool! (eqb (class_of (byte_at text s.at)) digit) (then! _ _ any! λ v h. got! (number v _))
        (bool! (eqb (byte_at text s.at) apostrophe) (then! _ _ any! λ r h. got! (number r.value r.next))
        (bool! (eqb (byte_at text s.at) quote) (then! _ _ any! λ n h. got! (plain kind.text n))
        (bool! (eqb (mark_at (from text s.at)).kind kind.end) no! (got! (plain _ _))))))

    cut_next-told : s.at < length text → Tells text s (cut_next text s)
    unfolding cut_next cut_other cut_comment cut_directive new_line skip_to
    cut_next-told l = bool! (eqb (byte_at text s.at) line_feed) (got! (none refl)) (bool! (is_blank (byte_at text s.at)) (got! (none refl))
        (bool! (joins (from text s.at)) (got! (none refl)) (bool! (opens_line_comment (from text s.at)) (got! (none refl))
        (bool! (opens_comment (from text s.at)) (then! _ _ any! λ n h. got! (none refl))
        (bool! (eqb (first (from text s.at)) hash && s.line_start) (bool! (is_macro (directive text s.at).line) no! (got! (none refl))) (cut_token-told l))))))

-- ---- the whole text

record Spelt (text : Bytes) (s : Cutting) : Type 0 where
  before : spelt s.tokens ≤ s.at
  within : spelt s.tokens ≤ length text
  placed : Placed s.names

module _ (text : Bytes) (short : length text ≤ max_text) where
  known : (s s' : Cutting) → s.at < length text → Placed s.names → Step text s s' → Placed s'.names
  known s s' l h (skip p e f) = rw f h
  known s s' l h (token k n d p e f) = rw f h
  known s s' l h (name k n w d p e z y (new a b) q r) = rw b (placed-more _ h (omega arith))
  known s s' l h (name k n w d p e z y (old a b c) q r) = rw c h

  further : (s s' : Cutting) → Step text s s' → s.at < s'.at
  further s s' (skip p e f) = p
  further s s' (token k n d p e f) = p
  further s s' (name k n w d p e z y g q r) = p

  next-spelt : (s s' : Cutting) → s.at < length text → Spelt text s → Step text s s' → Told text s s' → Spelt text s'
  next-spelt s s' l h k (none e) = let a = h.before in let b = h.within in let c = further s s' k in
      record { before = omega arith; within = omega arith; placed = known s s' l h.placed k }
  next-spelt s s' l h k (word n e p q) = let a = h.before in let b = h.within in record { before = omega arith; within = omega arith; placed = known s s' l h.placed k }

  cut_all-spelt : (f : ℕ) (s : Cutting) → Spelt text s → Every (Spelt text) (cut_all f text s)
  unfolding cut_all
  cut_all-spelt zero s h = got! h
  cut_all-spelt (suc f) s h = test! (leb (length text) s.at) (λ e. got! h) (λ e. let l = leb-false (length text) s.at e in
      then! _ _ (both (cut_next-step text s l) (cut_next-told text s (omega arith) h.placed l)) λ s' k. cut_all-spelt f s' (next-spelt s s' l h k.0 k.1))
    where
      both : {r : Answer Cutting} → Every (Step text s) r → Every (Told text s) r → Every (λ (s' : Cutting). Step text s s' × Told text s s') r
      both a b = record { of = λ x e. (a.of x e, b.of x e) }

nothing_yet : (text : Bytes) → Spelt text start
unfolding sum_of
nothing_yet text = record { before = omega arith; within = omega arith; placed = nil }

-- of a text cut into tokens
pub record Short (text : Bytes) (x : Lexed) : Type 0 where
  pub within : length text ≤ max_text
  pub names : (i : ℕ) → read x.tokens i ≤ length text

pub tokenize-short : (text : Bytes) → Every (Short text) (tokenize text)
unfolding tokenize cut columns
tokenize-short text = test! (ltb max_text (length text)) (λ e. no!) (λ e. let l = ltb-false max_text (length text) e in
    then! _ _ any! λ n h. then! _ _ (cut_all-spelt text l (suc (length text)) start (nothing_yet text)) λ s k.
    got! (record { within = l; names = λ i. omega (arith, read-spelt s.tokens i, k.within) }))
