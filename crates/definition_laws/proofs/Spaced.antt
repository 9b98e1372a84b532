-- Every step of the lexer goes on, and two names never touch: "the name table has 16,384 entries, which no text can pass". Assumes nothing.
use mathlib.Core.Path.{◌≡◌, refl, ap, ◌∙◌}
use mathlib.Core.Bool.{Bool, true, false, ◌&&◌}
use mathlib.Core.List.{List, [], ◌∷◌, ◌++◌, map}
use Prim.Native.Nat.{ℕ, zero, suc, ◌+◌, ◌*◌, ◌≤◌, ◌<◌}
use native.Mathlib.Omega.{arith}
use native.Mathlib.Nat.{le_refl}
use lib.Dec.{eqb, leb, ltb}
use lib.ListN.{length, length-drop}
use borrow.Author.Tests.{leb-false, ltb-false, eqb-false}
use Rattle.definition.specs.Answer.{Answer}
use Rattle.definition.specs.Limit.{max_text, max_names}
use Rattle.definition.specs.Text.{Bytes, byte_at}
use Rattle.definition.specs.Byte.{line_feed, hash, apostrophe, quote, dot_byte}
use Rattle.definition.specs.Class.{letter, digit, class_of, is_blank, is_word_byte}
use Rattle.definition.specs.Scan.{from, first}
use Rattle.definition.specs.Comment.{joins, opens_line_comment, opens_comment}
use Rattle.definition.specs.Directive.{directive, is_macro, ends_word}
use Rattle.definition.specs.Attribute.{Attribute}
use Rattle.definition.specs.Number.{ends_number}
use Rattle.definition.specs.Mark.{Mark, Written, two_byte_marks, one_byte_marks, mark_among, short_mark, mark_of, mark_at, pair}
use Rattle.definition.specs.Name.{no_name, name_of, offset_of}
use Rattle.definition.specs.Spelling.{Spelling, known_name}
use Rattle.definition.specs.Token.{Token, Lexed, columns}
use Rattle.definition.specs.Table.{Table}
use Rattle.definition.specs.NameTable.{held_names, is_held, names_among, name_table}
use Rattle.definition.specs.Kind as kind
use Rattle.definition.specs.Cut.{Cutting, skip_to, new_line, drop_to, push, meet, push_name, push_attribute, cut_word_of, word_at, cut_word, number_word, cut_number, cut_character, cut_string, cut_mark, cut_token, cut_directive, cut_comment, cut_other, cut_next, cut_all, start, cut, tokenize}
use Rattle.lemmas.proofs.Branch.{yes, nay}
use Rattle.definition_laws.specs.Every.{Every}
use Rattle.definition_laws.proofs.Every.{got!, no!, bool!, test!, then!, weaker!, any! }
use Rattle.definition_laws.proofs.LexerProgress.{before_le, before-positive, from-length, letter_in_word, digit_in_number, word_goes_on, number_goes_on, word-ends, run_length, line_comment_positive, after_comment-past, line_from-on, attribute_at-on, character_at-past, after_string-past}

-- ---- how many tokens are names

unfoldable pub names : List Token → ℕ
names [] = 0
names (t ∷ ts) = elim (kind.is_name t.kind) [ true ↦ suc (names ts) | false ↦ names ts ]

name-more : (ts : List Token) (t : Token) → kind.is_name t.kind ≡ true → names (ts ++ t ∷ []) ≡ suc (names ts)
unfolding names
name-more [] t e = yes (kind.is_name t.kind) 1 0 e
name-more (x ∷ xs) t e = go (kind.is_name x.kind) (name-more xs t e)
  where
    go : (b : Bool) → names (xs ++ t ∷ []) ≡ suc (names xs)
        → ◌≡◌ {A = ℕ} (elim b as (λ z. ℕ) [ true ↦ suc (names (xs ++ t ∷ [])) | false ↦ names (xs ++ t ∷ []) ]) (suc (elim b as (λ z. ℕ) [ true ↦ suc (names xs) | false ↦ names xs ]))
    go true h = ap suc h
    go false h = h

no_name_more : (ts : List Token) (t : Token) → kind.is_name t.kind ≡ false → names (ts ++ t ∷ []) ≡ names ts
unfolding names
no_name_more [] t e = nay (kind.is_name t.kind) 1 0 e
no_name_more (x ∷ xs) t e = go (kind.is_name x.kind) (no_name_more xs t e)
  where
    go : (b : Bool) → names (xs ++ t ∷ []) ≡ names xs
        → ◌≡◌ {A = ℕ} (elim b as (λ z. ℕ) [ true ↦ suc (names (xs ++ t ∷ [])) | false ↦ names (xs ++ t ∷ []) ]) (elim b as (λ z. ℕ) [ true ↦ suc (names xs) | false ↦ names xs ])
    go true h = ap suc h
    go false h = h

-- ---- marks

-- no mark of a table is a name
data NoNames : List Written → Type 0 where
  nil : NoNames []
  also : {m : Written} {ms : List Written} → kind.is_name m.kind ≡ false → NoNames ms → NoNames (m ∷ ms)

among_no_name : (ms : List Written) (n : ℕ) → NoNames ms → kind.is_name (mark_among ms n) ≡ false
unfolding mark_among kind.is_name
among_no_name [] n nil = refl
among_no_name (m ∷ ms) n (also h hs) = go (eqb n m.written) (among_no_name ms n hs)
  where
    go : (b : Bool) → kind.is_name (mark_among ms n) ≡ false → kind.is_name (elim b as (λ z. ℕ) [ true ↦ m.kind | false ↦ mark_among ms n ]) ≡ false
    go true k = h
    go false k = k

two_no_names : NoNames two_byte_marks
unfolding two_byte_marks kind.is_name
two_no_names = also refl (also refl (also refl (also refl (also refl (also refl (also refl (also refl nil)))))))

one_no_names : NoNames one_byte_marks
unfolding one_byte_marks kind.is_name
one_no_names = also refl (also refl (also refl (also refl (also refl (also refl (also refl (also refl (also refl (also refl (also refl (also refl
    (also refl (also refl (also refl (also refl (also refl (also refl (also refl (also refl (also refl (also refl (also refl (also refl nil)))))))))))))))))))))))

ellipsis_no_name : kind.is_name kind.ellipsis ≡ false
unfolding kind.is_name
ellipsis_no_name = refl

record Marked (m : Mark) : Type 0 where
  no_name : kind.is_name m.kind ≡ false
  takes : 0 < m.size

marked : (a b c : ℕ) → Marked (mark_of a b c)
unfolding mark_of short_mark
marked a b c = go (eqb a dot_byte && (eqb b dot_byte && eqb c dot_byte)) (eqb (mark_among two_byte_marks (pair a b)) kind.end)
  where
    go : (p q : Bool) → Marked (elim p as (λ z. Mark) [ true ↦ record { kind = kind.ellipsis; size = 3 } | false ↦ elim q as (λ z. Mark) [ true ↦ short_mark a | false ↦ record { kind = mark_among two_byte_marks (pair a b); size = 2 } ] ])
    go true q = record { no_name = ellipsis_no_name; takes = omega arith }
    go false true = record { no_name = among_no_name one_byte_marks a one_no_names; takes = omega arith }
    go false false = record { no_name = among_no_name two_byte_marks (pair a b) two_no_names; takes = omega arith }

mark_no_name : (bs : Bytes) → kind.is_name (mark_at bs).kind ≡ false
unfolding mark_at
mark_no_name bs = (marked (byte_at bs 0) (byte_at bs 1) (byte_at bs 2)).no_name

mark-takes : (bs : Bytes) → 0 < (mark_at bs).size
unfolding mark_at
mark-takes bs = (marked (byte_at bs 0) (byte_at bs 1) (byte_at bs 2)).takes

-- ---- a step

-- the name that a word is given here: a new one, or that of its spelling
pub data Given (at : ℕ) (w : Bytes) (ns ns' : List Spelling) (n : ℕ) : Type 0 where
  new : n ≡ name_of at (length w) → ns' ≡ ns ++ record { spelling = w; offset = at } ∷ [] → Given at w ns ns' n
  old : n ≡ known_name ns w → (n ≡ no_name → ⊥) → ns' ≡ ns → Given at w ns ns' n

pub data Step (text : Bytes) (s s' : Cutting) : Type 0 where
  -- no token was read
  skip : s.at < s'.at → s'.tokens ≡ s.tokens → s'.names ≡ s.names → Step text s s'
  -- a token that is no name
  token : (k n : ℕ) → kind.is_name k ≡ false → s.at < s'.at → s'.tokens ≡ s.tokens ++ record { kind = k; place = s.at; number = n } ∷ [] → s'.names ≡ s.names → Step text s s'
  -- a name, and no byte of a word follows it
  name : (k n : ℕ) (w : Bytes) → kind.is_name k ≡ true → s.at < s'.at → s'.tokens ≡ s.tokens ++ record { kind = k; place = s.at; number = n } ∷ []
      → 0 < length w → s.at + length w ≤ length text → Given s.at w s.names s'.names n
      → is_word_byte (byte_at text s.at) ≡ true → is_word_byte (byte_at text s'.at) ≡ false → Step text s s'

abbrev Steps : Bytes → Cutting → Answer Cutting → Type 0
Steps text s r = Every (Step text s) r

module _ (text : Bytes) (s : Cutting) where
  -- a token that is no name
  pushed : (k n next : ℕ) → kind.is_name k ≡ false → s.at < next → Step text s (push k n next s)
  unfolding push
  pushed k n next e p = token k n e p refl refl

  skipped : (next : ℕ) → s.at < next → Step text s (skip_to next s)
  unfolding skip_to
  skipped next p = skip p refl refl

  dropped : (next : ℕ) → s.at < next → Step text s (drop_to next s)
  unfolding drop_to
  dropped next p = skip p refl refl

  no_name_number : kind.is_name kind.number ≡ false
  unfolding kind.is_name
  no_name_number = refl

  no_name_text : kind.is_name kind.text ≡ false
  unfolding kind.is_name
  no_name_text = refl

  no_name_attribute : kind.is_name kind.attribute ≡ false
  unfolding kind.is_name
  no_name_attribute = refl

  -- ---- words

  named : (k : ℕ) (w : Bytes) → kind.is_name k ≡ true → 0 < length w → s.at + length w ≤ length text → is_word_byte (byte_at text s.at) ≡ true → is_word_byte (byte_at text (s.at + length w)) ≡ false
      → Step text s (push_name k w s)
  unfolding push_name push meet
  named k w e p l q r = go (eqb (known_name s.names w) no_name) refl
    where
      go : (b : Bool) → eqb (known_name s.names w) no_name ≡ b
          → Step text s (elim b as (λ z. Cutting) [ true ↦ push k (name_of s.at (length w)) (s.at + length w) (meet w s) | false ↦ push k (known_name s.names w) (s.at + length w) s ])
      go true t = name k (name_of s.at (length w)) w e (omega arith) refl p l (new refl refl) q r
      go false t = name k (known_name s.names w) w e (omega arith) refl p l (old refl (eqb-false (known_name s.names w) no_name t) refl) q r

  attributed : (a : Attribute) → s.at < a.next → Step text s (push_attribute a s)
  unfolding push_attribute
  attributed a p = go a.layout
    where
      go : (b : Bool) → Step text s (elim b as (λ z. Cutting) [ true ↦ push kind.attribute 0 a.next s | false ↦ drop_to a.next s ])
      go true = pushed kind.attribute 0 a.next no_name_attribute p
      go false = dropped a.next p

  cut_word_of-step : (k : ℕ) (w : Bytes) → 0 < length w → s.at + length w ≤ length text → is_word_byte (byte_at text s.at) ≡ true → is_word_byte (byte_at text (s.at + length w)) ≡ false → Steps text s (cut_word_of text k w s)
  unfolding cut_word_of
  cut_word_of-step k w p l q r = bool! (eqb k kind.attribute)
      (then! _ _ (attribute_at-on text s.at (s.at + length w)) λ a h. got! (attributed a (omega arith)))
      (test! (kind.is_name k) (λ e. got! (named k w e p l q r)) (λ e. got! (pushed k 0 (s.at + length w) e (omega arith))))

  module _ (l : s.at < length text) where
    cut_word-step : eqb (class_of (byte_at text s.at)) letter ≡ true → Steps text s (cut_word text s)
    unfolding cut_word word_at
    cut_word-step e = let b = letter_in_word (byte_at text s.at) e in
        let n = run_length text s.at ends_word in let p = before-positive ends_word (from text s.at) (from-length text s.at l) (word_goes_on text s.at b) in
        let m = before_le ends_word (from text s.at) in
        cut_word_of-step _ _ (omega arith) (omega (arith, length-drop s.at text)) b (rw n (word-ends text s.at))

    cut_number-step : eqb (class_of (byte_at text s.at)) digit ≡ true → Steps text s (cut_number text s)
    unfolding cut_number number_word
    cut_number-step e = let n = run_length text s.at ends_number in
        let p = before-positive ends_number (from text s.at) (from-length text s.at l) (number_goes_on text s.at (digit_in_number (byte_at text s.at) e)) in
        then! _ _ any! λ v h. got! (pushed kind.number v _ no_name_number (omega arith))

    -- ---- other tokens

    cut_character-step : Steps text s (cut_character text s)
    unfolding cut_character
    cut_character-step = then! _ _ (character_at-past text s.at) λ r h. got! (pushed kind.number r.value r.next no_name_number h)

    cut_string-step : Steps text s (cut_string text s)
    unfolding cut_string
    cut_string-step = then! _ _ (after_string-past text s.at) λ n h. got! (pushed kind.text 0 n no_name_text h)

    cut_mark-step : Steps text s (cut_mark text s)
    unfolding cut_mark
    cut_mark-step = let k = mark-takes (from text s.at) in bool! (eqb (mark_at (from text s.at)).kind kind.end) no! (got! (pushed _ 0 _ (mark_no_name (from text s.at)) (omega arith)))

    cut_token-step : Steps text s (cut_token text s)
    unfolding cut_token
    cut_token-step = test! (eqb (class_of (byte_at text s.at)) letter) cut_word-step (λ e. test! (eqb (class_of (byte_at text s.at)) digit) cut_number-step
        (λ f. bool! (eqb (byte_at text s.at) apostrophe) cut_character-step (bool! (eqb (byte_at text s.at) quote) cut_string-step cut_mark-step)))

    -- ---- blanks, comments and # lines

    cut_directive-step : Steps text s (cut_directive text s)
    unfolding cut_directive directive
    cut_directive-step = let k = line_from-on (length text) text (s.at + 1) in bool! (is_macro (directive text s.at).line) no! (got! (skipped _ (omega arith)))

    cut_other-step : Steps text s (cut_other text s)
    unfolding cut_other cut_comment
    cut_other-step = bool! (joins (from text s.at)) (got! (skipped _ (omega arith)))
        (test! (opens_line_comment (from text s.at))
        (λ e. let p = line_comment_positive (from text s.at) (from-length text s.at l) e in got! (skipped _ (omega arith)))
        (λ e. bool! (opens_comment (from text s.at)) (then! _ _ (after_comment-past text s.at) λ n h. got! (skipped n h))
        (bool! (eqb (first (from text s.at)) hash && s.line_start) cut_directive-step cut_token-step)))

    pub cut_next-step : Steps text s (cut_next text s)
    unfolding cut_next new_line
    cut_next-step = bool! (eqb (byte_at text s.at) line_feed) (got! (skip (omega arith) refl refl))
        (bool! (is_blank (byte_at text s.at)) (got! (skipped _ (omega arith))) cut_other-step)

-- a step goes on
pub cut_next-past : (text : Bytes) (s : Cutting) → s.at < length text → Every (λ (s' : Cutting). s.at < s'.at) (cut_next text s)
cut_next-past text s l = weaker! (cut_next-step text s l) on
  where
    on : (s' : Cutting) → Step text s s' → s.at < s'.at
    on s' (skip p e f) = p
    on s' (token k n d p e f) = p
    on s' (name k n w d p e z l g q r) = p

-- ---- names are apart

-- With every name at least one byte was read that no word holds, or the text ends.
record Spaced (text : Bytes) (s : Cutting) : Type 0 where
  half : 2 * names s.tokens ≤ s.at + 1
  gap : is_word_byte (byte_at text s.at) ≡ true → 2 * names s.tokens ≤ s.at
  whole : 2 * names s.tokens ≤ length text + 1

spaced_step : (text : Bytes) (s s' : Cutting) → s.at < length text → Spaced text s → Step text s s' → Spaced text s'
spaced_step text s s' l h (skip p e f) = let a = h.half in let b = h.whole in let c = ap names e in record { half = omega arith; gap = λ q. omega arith; whole = omega arith }
spaced_step text s s' l h (token k n d p e f) =
    let a = h.half in let b = h.whole in let c = ap names e ∙ no_name_more s.tokens _ d in record { half = omega arith; gap = λ q. omega arith; whole = omega arith }
spaced_step text s s' l h (name k n w d p e z y g q r) =
    let a = h.gap q in let c = ap names e ∙ name-more s.tokens _ d in
    record { half = omega arith; gap = λ t. let z : ◌≡◌ {A = ℕ} 0 1 = cc in absurd (omega arith); whole = omega arith }

cut_all_spaced : (f : ℕ) (text : Bytes) (s : Cutting) → Spaced text s → Every (Spaced text) (cut_all f text s)
unfolding cut_all
cut_all_spaced zero text s h = got! h
cut_all_spaced (suc f) text s h = test! (leb (length text) s.at) (λ e. got! h)
    (λ e. let l = leb-false (length text) s.at e in then! _ _ (cut_next-step text s l) λ s' k. cut_all_spaced f text s' (spaced_step text s s' l h k))

-- ---- the name table

counted : (held : List ℕ) (ts : List Token) → length (names_among held (map (λ t. t.kind) ts) (map (λ t. t.place) ts) (map (λ t. t.number) ts)) ≤ names ts
unfolding names_among names
counted held [] = le_refl _
counted held (t ∷ ts) = go (kind.is_name t.kind) (eqb (offset_of t.number) t.place) (is_held t.number held) (counted held ts)
  where
    rest : List ℕ
    rest = names_among held (map (λ t. t.kind) ts) (map (λ t. t.place) ts) (map (λ t. t.number) ts)

    go : (a b c : Bool) → length rest ≤ names ts → length {A = ℕ} (elim (a && b) as (λ z. List ℕ) [ true ↦ elim c as (λ z. List ℕ) [ true ↦ t.number ∷ rest | false ↦ rest ] | false ↦ rest ])
        ≤ (elim a as (λ z. ℕ) [ true ↦ suc (names ts) | false ↦ names ts ])
    go true true true h = omega arith
    go true true false h = omega arith
    go true false c h = omega arith
    go false b c h = h

-- a text cut into tokens
pub record FewNames (x : Lexed) : Type 0 where
  pub few : (t : Table) → length (name_table x t) ≤ max_names

pub tokenize-few : (text : Bytes) → Every FewNames (tokenize text)
unfolding tokenize cut columns name_table names
tokenize-few text = test! (ltb max_text (length text)) (λ e. no!) (λ e. let l = ltb-false max_text (length text) e in
    then! _ _ any! λ n h. then! _ _ (cut_all_spaced (suc (length text)) text start (record { half = omega arith; gap = λ q. omega arith; whole = omega arith })) λ s k.
    got! (record { few = λ t. let a = k.whole in let b : length (name_table (columns s.tokens (length text)) t) ≤ names s.tokens = counted (held_names t) s.tokens in omega arith }))
