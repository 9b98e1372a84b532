-- Every name token of a text has a name: a word has a letter, so the number of its spelling is not 0.
use mathlib.Core.Path.{◌≡◌, refl, sym, subst}
use mathlib.Core.Logic.{◌≢◌}
use mathlib.Core.List.{List, [], ◌∷◌, ◌++◌, map}
use mathlib.Core.Bool.{Bool, true, false, not, ◌&&◌, ◌||◌}
use Prim.Native.Nat.{ℕ, zero, suc, ◌+◌, ◌<◌}
use native.Mathlib.Omega.{arith}
use lib.Dec.{T, eqb, leb, ltb, eqb_refl}
use lib.ListN.{length, get_or, drop, take}
use Rattle.definition.specs.Limit.{max_text}
use Rattle.definition.specs.Text as Text
use Rattle.definition.specs.Text.{Bytes, byte_at, no_byte}
use Rattle.definition.specs.Byte.{line_feed, hash, apostrophe, quote, dot_byte}
use Rattle.definition.specs.Class as Class
use Rattle.definition.specs.Class.{class_of, is_blank, is_word_byte, letter, digit}
use Rattle.definition.specs.Scan.{from, first, before}
use Rattle.definition.specs.Comment.{joins, opens_line_comment, opens_comment}
use Rattle.definition.specs.Directive.{directive, is_macro, ends_word}
use Rattle.definition.specs.Attribute.{Attribute}
use Rattle.definition.specs.Kind as kind
use Rattle.definition.specs.Kind.{is_name}
use Rattle.definition.specs.Name.{no_name, name_of}
use Rattle.definition.specs.Spelling.{known_name}
use Rattle.definition.specs.Mark.{Mark, Written, two_byte_marks, one_byte_marks, mark_among, short_mark, mark_of, mark_at, pair}
use Rattle.definition.specs.Word as Word
use Rattle.definition.specs.Token.{Token, columns}
use Rattle.definition.specs.Cut.{Cutting, skip_to, new_line, drop_to, push, meet, push_name, push_attribute, cut_word_of, word_at, cut_word, cut_number, cut_character, cut_string, cut_mark, cut_token, cut_directive, cut_comment, cut_other, cut_next, cut_all, start, cut, tokenize}
use Rattle.walks.proofs.WalkProof.{T_of}
use Rattle.definition_laws.specs.Every.{Every}
use Rattle.definition_laws.proofs.Every.{got!, no!, bool!, test!, then!, any! }
use Rattle.walks.proofs.ReadProof.{Named}

-- ---- tokens

Good : Token → Type 0
Good t = T (is_name t.kind) → t.number ≢ no_name

AllGood : List Token → Type 0
AllGood [] = Unit
AllGood (t ∷ ts) = Good t × AllGood ts

good-append : (ts : List Token) (t : Token) → AllGood ts → Good t → AllGood (ts ++ t ∷ [])
unfolding AllGood
good-append [] t a g = (g, tt)
good-append (x ∷ ts) t a g = (a.0, good-append ts t a.1 g)

named-columns : (ts : List Token) (i : ℕ) → AllGood ts → T (is_name (get_or (map (λ t. t.kind) ts) i kind.end)) → get_or (map (λ t. t.number) ts) i 0 ≢ no_name
unfolding AllGood Good is_name
named-columns [] i a h = absurd h
named-columns (t ∷ ts) zero a h = a.0 h
named-columns (t ∷ ts) (suc i) a h = named-columns ts i a.1 h

-- the cutting so far
abbrev Fine : Cutting → Type 0
Fine s = AllGood s.tokens

push-fine : (k n next : ℕ) (s : Cutting) → (T (is_name k) → n ≢ no_name) → Fine s → Fine (push k n next s)
unfolding push Good
push-fine k n next s g f = good-append s.tokens (record { kind = k; place = s.at; number = n }) f g

-- ---- words

drop-first : (l : Bytes) (n : ℕ) → get_or (drop n l) 0 no_byte ≡ get_or l n no_byte
drop-first l zero = refl
drop-first [] (suc n) = refl
drop-first (x ∷ l) (suc n) = drop-first l n

or_left : (a b : Bool) → T a → not (a || b) ≡ false
or_left true b h = refl
or_left false b h = absurd h

word-long : (bs : Bytes) → T (eqb (class_of (get_or bs 0 no_byte)) letter) → 0 < length (take (before ends_word bs) bs)
unfolding before ends_word is_word_byte class_of Class.is_blank_byte Class.is_letter_byte Class.is_digit_byte Class.among Class.mark_bytes Text.bytes
word-long [] h = absurd h
word-long (b ∷ bs) h = at (ends_word (b ∷ bs)) (or_left (eqb (class_of b) letter) (eqb (class_of b) digit) h)
  where
    at : (x : Bool) → x ≡ false → 0 < length (take (elim x as (λ z. ℕ) [ true ↦ zero | false ↦ suc (before ends_word bs) ]) (b ∷ bs))
    at false z = omega arith
    at true z = let q : ◌≡◌ {A = ℕ} 0 1 = cc in absurd (omega arith)

push_name-fine : (k : ℕ) (w : Bytes) (s : Cutting) → 0 < length w → Fine s → Fine (push_name k w s)
unfolding push_name
push_name-fine k w s l f = at (eqb (known_name s.names w) no_name) refl
  where
    at : (b : Bool) → eqb (known_name s.names w) no_name ≡ b
        → Fine (elim b as (λ z. Cutting) [ true ↦ push k (name_of s.at (length w)) (s.at + length w) (meet w s) | false ↦ push k (known_name s.names w) (s.at + length w) s ])
    at true z = push-fine k (name_of s.at (length w)) (s.at + length w) (meet w s) (λ h e. (unfold name_of in omega arith)) (unfold meet in f)
    at false z = push-fine k (known_name s.names w) (s.at + length w) s (λ h e. subst T z (subst (λ x. T (eqb x no_name)) (sym e) (eqb_refl no_name))) f

attribute-fine : (a : Attribute) (s : Cutting) → Fine s → Fine (push_attribute a s)
unfolding push_attribute
attribute-fine a s f = at a.layout
  where
    at : (b : Bool) → Fine (elim b as (λ z. Cutting) [ true ↦ push kind.attribute 0 a.next s | false ↦ drop_to a.next s ])
    at true = push-fine kind.attribute 0 a.next s (λ h. absurd (unfold is_name in h)) f
    at false = unfold drop_to in f

cut_word_of-fine : (text : Bytes) (k : ℕ) (w : Bytes) (s : Cutting) → 0 < length w → Fine s → Every (λ x. Fine x) (cut_word_of text k w s)
unfolding cut_word_of
cut_word_of-fine text k w s l f = bool! (eqb k kind.attribute) (then! _ _ any! λ a u. got! (attribute-fine a s f))
    (test! (is_name k) (λ z. got! (push_name-fine k w s l f)) (λ z. got! (push-fine k 0 (s.at + length w) s (λ h. absurd (subst T z h)) f)))

cut_word-fine : (text : Bytes) (s : Cutting) → T (eqb (class_of (byte_at text s.at)) letter) → Fine s → Every (λ x. Fine x) (cut_word text s)
unfolding cut_word word_at
cut_word-fine text s h f = cut_word_of-fine text (Word.kind_of (word_at text s.at)) (word_at text s.at) s
    (word-long (drop s.at text) (subst (λ b. T (eqb (class_of b) letter)) (sym (drop-first text s.at)) h)) f

-- ---- marks are no names

no_names : List Written → Bool
no_names [] = true
no_names (m ∷ ms) = elim (is_name m.kind) [ true ↦ false | false ↦ no_names ms ]

among_none : (ms : List Written) (n : ℕ) → T (no_names ms) → T (is_name (mark_among ms n)) → ⊥
unfolding no_names mark_among is_name
among_none [] n a h = h
among_none (m ∷ ms) n a h = at (is_name m.kind) refl a (eqb n m.written) h (λ b g. among_none ms n b g)
  where
    at : (x : Bool) → is_name m.kind ≡ x → T (elim x as (λ z. Bool) [ true ↦ false | false ↦ no_names ms ]) → (y : Bool)
        → T (is_name (elim y as (λ z. ℕ) [ true ↦ m.kind | false ↦ mark_among ms n ])) → (T (no_names ms) → T (is_name (mark_among ms n)) → ⊥) → ⊥
    at true z a y h f = absurd a
    at false z a true h f = subst T z h
    at false z a false h f = f a h

two_none : (n : ℕ) → T (is_name (mark_among two_byte_marks n)) → ⊥
unfolding no_names two_byte_marks is_name
two_none n h = among_none two_byte_marks n tt h

one_none : (n : ℕ) → T (is_name (mark_among one_byte_marks n)) → ⊥
unfolding no_names one_byte_marks is_name
one_none n h = among_none one_byte_marks n tt h

mark-none : (a b c : ℕ) → T (is_name (mark_of a b c).kind) → ⊥
unfolding mark_of short_mark
mark-none a b c h = at (eqb a dot_byte && (eqb b dot_byte && eqb c dot_byte)) (eqb (mark_among two_byte_marks (pair a b)) kind.end) h
  where
    at : (x y : Bool) → T (is_name (elim x as (λ z. Mark) [
      | true ↦ record { kind = kind.ellipsis; size = 3 }
      | false ↦ elim y as (λ z. Mark) [ true ↦ record { kind = mark_among one_byte_marks a; size = 1 } | false ↦ record { kind = mark_among two_byte_marks (pair a b); size = 2 } ]
    ]).kind) → ⊥
    at true y h = unfold is_name in h
    at false true h = one_none a h
    at false false h = two_none (pair a b) h

cut_mark-fine : (text : Bytes) (s : Cutting) → Fine s → Every (λ x. Fine x) (cut_mark text s)
unfolding cut_mark mark_at
cut_mark-fine text s f = let bs = from text s.at in let m = mark_at bs in bool! (eqb m.kind kind.end) no!
    (got! (push-fine m.kind 0 (s.at + m.size) s (λ h. absurd (mark-none (byte_at bs 0) (byte_at bs 1) (byte_at bs 2) h)) f))

-- ---- all of a text

cut_number-fine : (text : Bytes) (s : Cutting) → Fine s → Every (λ x. Fine x) (cut_number text s)
unfolding cut_number
cut_number-fine text s f = then! _ _ any! λ v u. got! (push-fine kind.number v _ s (λ h. absurd (unfold is_name in h)) f)

cut_character-fine : (text : Bytes) (s : Cutting) → Fine s → Every (λ x. Fine x) (cut_character text s)
unfolding cut_character
cut_character-fine text s f = then! _ _ any! λ r u. got! (push-fine kind.number r.value r.next s (λ h. absurd (unfold is_name in h)) f)

cut_string-fine : (text : Bytes) (s : Cutting) → Fine s → Every (λ x. Fine x) (cut_string text s)
unfolding cut_string
cut_string-fine text s f = then! _ _ any! λ n u. got! (push-fine kind.text 0 n s (λ h. absurd (unfold is_name in h)) f)

cut_token-fine : (text : Bytes) (s : Cutting) → Fine s → Every (λ x. Fine x) (cut_token text s)
unfolding cut_token
cut_token-fine text s f = let b = byte_at text s.at in
    test! (eqb (class_of b) letter) (λ z. cut_word-fine text s (T_of z) f) (λ z. bool! (eqb (class_of b) digit) (cut_number-fine text s f)
    (bool! (eqb b apostrophe) (cut_character-fine text s f) (bool! (eqb b quote) (cut_string-fine text s f) (cut_mark-fine text s f))))

cut_other-fine : (text : Bytes) (s : Cutting) → Fine s → Every (λ x. Fine x) (cut_other text s)
unfolding cut_other cut_comment cut_directive skip_to
cut_other-fine text s f = let bs = from text s.at in
    bool! (joins bs) (got! f) (bool! (opens_line_comment bs) (got! f) (bool! (opens_comment bs) (then! _ _ any! λ n u. got! f)
    (bool! (eqb (first bs) hash && s.line_start) (bool! (is_macro (directive text s.at).line) no! (got! f)) (cut_token-fine text s f))))

cut_next-fine : (text : Bytes) (s : Cutting) → Fine s → Every (λ x. Fine x) (cut_next text s)
unfolding cut_next skip_to new_line
cut_next-fine text s f = let b = byte_at text s.at in bool! (eqb b line_feed) (got! f) (bool! (is_blank b) (got! f) (cut_other-fine text s f))

cut_all-fine : (n : ℕ) (text : Bytes) (s : Cutting) → Fine s → Every (λ x. Fine x) (cut_all n text s)
unfolding cut_all
cut_all-fine zero text s f = got! f
cut_all-fine (suc n) text s f = bool! (leb (length text) s.at) (got! f) (then! _ _ (cut_next-fine text s f) λ x g. cut_all-fine n text x g)

pub tokenize-named : (text : Bytes) → Every (λ x. Named x.tokens) (tokenize text)
unfolding tokenize cut columns AllGood
tokenize-named text = bool! (ltb max_text (length text)) no! (then! _ _ any! λ n u.
    then! _ _ (cut_all-fine (suc (length text)) text start tt) λ s f. got! (λ i h. named-columns s.tokens i f h))
