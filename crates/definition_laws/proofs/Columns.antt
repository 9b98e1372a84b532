-- The columns of a text's tokens: places rise, and every name's number is above 0 and fits in 32 bits. Assumes nothing.
use mathlib.Core.Path.{◌≡◌, refl, sym, ap, ◌∙◌}
use mathlib.Core.Bool.{Bool, true, false}
use mathlib.Core.List.{List, [], ◌∷◌, ◌++◌, map}
use Prim.Native.Nat.{ℕ, zero, suc, ◌+◌, ◌*◌, ◌^◌, ◌≤◌, ◌<◌}
use native.Mathlib.Omega.{arith}
use native.Mathlib.Nat.{lt_of_not-le}
use native.Mathlib.Decide.{dec_le}
use lib.Dec.{leb, ltb}
use lib.ListN.{length, get_or, length-append, length-map, get_or-append}
use lib.Seq.{get_or_at}
use borrow.Author.Tests.{leb-false, ltb-false}
use Rattle.definition.specs.Limit.{max_text}
use Rattle.definition.specs.Text.{Bytes, same}
use Rattle.definition.specs.Name.{name_of}
use Rattle.definition.specs.Spelling.{Spelling, known_name}
use Rattle.definition.specs.Kind.{is_name, end}
use Rattle.definition.specs.Token.{Token, Lexed, columns}
use Rattle.definition.specs.NameTable.{name_table}
use Rattle.definition.specs.Cut.{Cutting, cut_all, start, cut, tokenize}
use Rattle.definition_laws.specs.Every.{Every}
use Rattle.definition_laws.specs.Columns.{Columns, LexedColumns, PlacedIn}
use Rattle.definition_laws.proofs.Every.{got!, no!, test!, then!, any! }
use Rattle.definition_laws.proofs.Spaced.{Given, new, old, Step, skip, token, name, cut_next-step, FewNames, tokenize-few}

-- ---- the names so far

-- first places are in the text
data Placed (n : ℕ) : List Spelling → Type 0 where
  nil : Placed n []
  also : {x : Spelling} {xs : List Spelling} → x.offset < n → Placed n xs → Placed n (x ∷ xs)

placed-more : {n : ℕ} {xs : List Spelling} (x : Spelling) → Placed n xs → x.offset < n → Placed n (xs ++ x ∷ [])
placed-more x nil p = also p nil
placed-more x (also q h) p = also q (placed-more x h p)

-- a name that was given to a word
known-below : (n : ℕ) (xs : List Spelling) (w : Bytes) → Placed n xs → known_name xs w < 65536 * length w + n + 1
unfolding known_name name_of
known-below n [] w nil = omega arith
known-below n (x ∷ xs) w (also p h) = go (same x.spelling w) (known-below n xs w h)
  where
    go : (b : Bool) → known_name xs w < 65536 * length w + n + 1 → (elim b as (λ z. ℕ) [ true ↦ 65536 * length w + x.offset | false ↦ known_name xs w ]) < 65536 * length w + n + 1
    go true k = omega arith
    go false k = k

-- ---- the tokens so far

abbrev no_token : Token
no_token = record { kind = end; place = 0; number = 0 }

abbrev token_at : List Token → ℕ → Token
token_at ts i = get_or ts i no_token

-- of one token that stands before an offset
record Fine (n at : ℕ) (t : Token) : Type 0 where
  before : t.place < at
  within : t.place < n
  some : is_name t.kind ≡ true → 0 < t.number
  fit : is_name t.kind ≡ true → t.number < 2 ^ 32

record Good (n : ℕ) (s : Cutting) : Type 0 where
  fine : (i : ℕ) → i < length s.tokens → Fine n s.at (token_at s.tokens i)
  rising : (i j : ℕ) → i < j → j < length s.tokens → (token_at s.tokens i).place < (token_at s.tokens j).place
  placed : Placed n s.names

module _ (ts : List Token) (t : Token) where
  token-early : (i : ℕ) → i < length ts → token_at (ts ++ t ∷ []) i ≡ token_at ts i
  token-early i p = get_or-append ts (t ∷ []) no_token i p

  token-last : (i : ℕ) → length ts ≤ i → i < length (ts ++ t ∷ []) → token_at (ts ++ t ∷ []) i ≡ t
  token-last i p q = get_or_at ts t [] no_token i (omega (arith, length-append ts (t ∷ [])))

later : {n at next : ℕ} {t : Token} → Fine n at t → at < next → Fine n next t
later f p = record { before = let a = f.before in omega arith; within = f.within; some = f.some; fit = f.fit }

-- a token more
module _ (n : ℕ) (s s' : Cutting) (h : Good n s) (p : s.at < s'.at) where
  unchanged : s'.tokens ≡ s.tokens → s'.names ≡ s.names → Good n s'
  unchanged e f = record {
    fine = λ i l. rw e (later (h.fine i (omega (arith, ap length e))) p);
    rising = λ i j q l. rw e (h.rising i j q (omega (arith, ap length e)));
    placed = rw f h.placed;
  }

  grown : (t : Token) → t.place ≡ s.at → Fine n s'.at t → s'.tokens ≡ s.tokens ++ t ∷ [] → Placed n s'.names → Good n s'
  grown t o f e g = record { fine = λ i l. rw e (fine' i (omega (arith, ap length e)) (dec_le (length s.tokens) i)); rising = λ i j q l. rw e (rising' i j q (omega (arith, ap length e)) (dec_le (length s.tokens) j)); placed = g }
    where
      fine' : (i : ℕ) → i < length (s.tokens ++ t ∷ []) → Dec (length s.tokens ≤ i) → Fine n s'.at (token_at (s.tokens ++ t ∷ []) i)
      fine' i l (yes q) = rw (token-last s.tokens t i q l) f
      fine' i l (no q) = let m = lt_of_not-le q in rw (token-early s.tokens t i m) (later (h.fine i m) p)

      rising' : (i j : ℕ) → i < j → j < length (s.tokens ++ t ∷ []) → Dec (length s.tokens ≤ j) → (token_at (s.tokens ++ t ∷ []) i).place < (token_at (s.tokens ++ t ∷ []) j).place
      rising' i j r l (yes q) =
          let m : i < length s.tokens = omega (arith, length-append s.tokens (t ∷ [])) in
          let b = (h.fine i m).before in
          rw (token-last s.tokens t j q l, token-early s.tokens t i m) (omega arith)
      rising' i j r l (no q) = let m = lt_of_not-le q in rw (token-early s.tokens t j m, token-early s.tokens t i (omega arith)) (h.rising i j r m)

good-step : (text : Bytes) (s s' : Cutting) → length text ≤ max_text → s.at < length text → Good (length text) s → Step text s s' → Good (length text) s'
unfolding name_of
good-step text s s' m l h (skip p e f) = unchanged (length text) s s' h p e f
good-step text s s' m l h (token k n d p e f) =
    grown (length text) s s' h p (record { kind = k; place = s.at; number = n }) refl
    (record { before = p; within = l; some = λ y. absurd (differ y d); fit = λ y. absurd (differ y d) }) e (rw f h.placed)
  where
    differ : is_name k ≡ true → is_name k ≡ false → ⊥
    differ y d = let z : ◌≡◌ {A = ℕ} 0 1 = cc in omega arith
good-step text s s' m l h (name k n w d p e z y g q r) = go g
  where
    put : 0 < n → n < 2 ^ 32 → Placed (length text) s'.names → Good (length text) s'
    put a b c = grown (length text) s s' h p (record { kind = k; place = s.at; number = n }) refl (record { before = p; within = l; some = λ y. a; fit = λ y. b }) e c

    go : Given s.at w s.names s'.names n → Good (length text) s'
    go (new a b) = put (omega arith) (omega arith) (rw b (placed-more _ h.placed l))
    go (old a b c) = put (omega (arith, b)) (omega (arith, known-below (length text) s.names w h.placed)) (rw c h.placed)

cut_all-good : (f : ℕ) (text : Bytes) (s : Cutting) → length text ≤ max_text → Good (length text) s → Every (Good (length text)) (cut_all f text s)
unfolding cut_all
cut_all-good zero text s m h = got! h
cut_all-good (suc f) text s m h = test! (leb (length text) s.at) (λ e. got! h)
    (λ e. let l = leb-false (length text) s.at e in then! _ _ (cut_next-step text s l) λ s' k. cut_all-good f text s' m (good-step text s s' m l h k))

-- ---- the columns

get_d_map : (f : Token → ℕ) → f no_token ≡ 0 → (ts : List Token) (i : ℕ) → get_or (map f ts) i 0 ≡ f (token_at ts i)
get_d_map f e [] i = sym e
get_d_map f e (t ∷ ts) zero = refl
get_d_map f e (t ∷ ts) (suc i) = get_d_map f e ts i

no_name_past : (ts : List Token) (i : ℕ) → is_name (get_or (map (λ t. t.kind) ts) i 0) ≡ true → i < length ts
unfolding is_name
no_name_past [] i e = let z : ◌≡◌ {A = ℕ} 0 1 = cc in absurd (omega arith)
no_name_past (t ∷ ts) zero e = omega arith
no_name_past (t ∷ ts) (suc i) e = let h = no_name_past ts i e in omega arith

module _ (n : ℕ) (s : Cutting) (short : n ≤ max_text) (h : Good n s) where
  columns-good : FewNames (columns s.tokens n) → LexedColumns (columns s.tokens n)
  unfolding columns name_table
  columns-good few = record {
    places = length-map s.tokens (λ t. t.place) ∙ sym (length-map s.tokens (λ t. t.kind));
    numbers = length-map s.tokens (λ t. t.number) ∙ sym (length-map s.tokens (λ t. t.kind));
    rising = λ i j p q. rw (get_d_map (λ t. t.place) refl s.tokens i, get_d_map (λ t. t.place) refl s.tokens j) (h.rising i j p (omega (arith, length-map s.tokens (λ t. t.kind))));
    within = λ i q. let f = (h.fine i (omega (arith, length-map s.tokens (λ t. t.kind)))).within in rw (get_d_map (λ t. t.place) refl s.tokens i) (omega arith);
    some = λ i e. rw (get_d_map (λ t. t.number) refl s.tokens i) ((h.fine i (no_name_past s.tokens i e)).some (sym (ap is_name (get_d_map (λ t. t.kind) refl s.tokens i)) ∙ e));
    fit = λ i e. rw (get_d_map (λ t. t.number) refl s.tokens i) ((h.fine i (no_name_past s.tokens i e)).fit (sym (ap is_name (get_d_map (λ t. t.kind) refl s.tokens i)) ∙ e));
    few = λ t. few.few t;
  }

record From (n : ℕ) (x : Lexed) : Type 0 where
  state : Cutting
  short : n ≤ max_text
  good : Good n state
  is : x ≡ columns state.tokens n

tokenize-good : (text : Bytes) → Every (From (length text)) (tokenize text)
unfolding tokenize cut
tokenize-good text = test! (ltb max_text (length text)) (λ e. no!) (λ e. let l = ltb-false max_text (length text) e in
    then! _ _ any! λ n h. then! _ _ (cut_all-good (suc (length text)) text start l (record { fine = λ i q. absurd (omega arith); rising = λ i j q r. absurd (omega arith); placed = nil })) λ s k.
    got! (record { state = s; short = l; good = k; is = refl }))

pub tokenize-columns : (text : Bytes) → Every LexedColumns (tokenize text)
tokenize-columns text = record {
  of = λ x e. let f = (tokenize-good text).of x e in
      rw f.is (columns-good (length text) f.state f.short f.good (rw f.is at ((tokenize-few text).of x e)));
}

places_in : (n : ℕ) (s : Cutting) → Good n s → (i : ℕ) → i < length (columns s.tokens n).places → get_or (columns s.tokens n).places i 0 < n
unfolding columns
places_in n s h i l = rw (get_d_map (λ t. t.place) refl s.tokens i) (h.fine i (omega (arith, length-map s.tokens (λ t. t.place)))).within

pub tokenize-placed : (text : Bytes) → Every (PlacedIn text) (tokenize text)
tokenize-placed text = record {
  of = λ x e. let f = (tokenize-good text).of x e in record { short = f.short; below = rw f.is (places_in (length text) f.state f.good) };
}

-- no more tokens than a text may have bytes
pub columns-short : {ks ps ns : List ℕ} → Columns ks ps ns → length ks ≤ max_text
columns-short {ks} {ps} c = go (dec_le (length ks) max_text)
  where
    above : (i : ℕ) → i < length ks → i ≤ get_or ps i 0
    above zero p = omega arith
    above (suc i) p = let h = above i (omega arith) in let r = c.rising i (suc i) (omega arith) p in omega arith

    go : Dec (length ks ≤ max_text) → length ks ≤ max_text
    go (yes p) = p
    go (no p) = let q = lt_of_not-le p in let h = above max_text q in let r = c.within max_text q in absurd (omega arith)

pub tokenize-end : (text : Bytes) → Every (λ (x : Lexed). x.text_end ≡ length text) (tokenize text)
unfolding columns
tokenize-end text = record { of = λ x e. ap (λ (y : Lexed). y.text_end) ((tokenize-good text).of x e).is }
