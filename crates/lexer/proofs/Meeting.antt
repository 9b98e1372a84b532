-- Laws of the names among the tokens, when one token more is stored. Assumes nothing.
use mathlib.Core.Path.{◌≡◌, refl, sym, ap, ◌∙◌}
use mathlib.Core.Bool.{Bool, true, false}
use mathlib.Core.List.{List, [], ◌∷◌, ◌++◌}
use Prim.Native.Nat.{ℕ, ◌+◌, ◌-◌, ◌*◌, ◌≤◌, ◌<◌}
use native.Mathlib.Omega.{arith}
use borrow.Author.Tests.{eqb-true, eqb-false}
use lib.Dec.{eqb}
use lib.ListN.{length, get_or, set, take}
use Rattle.definition.specs.Text.{Bytes, same}
use Rattle.definition.specs.Scan.{from}
use Rattle.definition.specs.Kind.{is_name}
use Rattle.definition.specs.Name.{name_of}
use Rattle.definition.specs.Token.{Token}
use Rattle.definition.specs.Spelling.{Spelling, known_name}
use Rattle.definition.specs.Cut.{push, meet, push_name}
use Rattle.definition.specs.Limit.{max_text}
use Rattle.definition_laws.proofs.Spellings.{same-equal}
use Rattle.lemmas.proofs.Lists.{get_d_set_at, get_d_set_before}
use Rattle.lemmas.proofs.Branch.{yes, nay, eq_yes, eq_no}
use Rattle.next_token.specs.Pieces.{state}
use Rattle.spellings.specs.Names.{spelled_by, is_name_of}
use Rattle.spellings.proofs.Found.{same_refl, part-long, name_was, name-is, parts-new, spelled-new}
use Rattle.lexer.specs.Names.{Finds, found, fresh, Good, Named}

-- a spelling more
known_step : (s : Spelling) (ss : List Spelling) (w : Bytes) → same s.spelling w ≡ true → known_name (s ∷ ss) w ≡ name_of s.offset (length w)
unfolding known_name
known_step s ss w p = yes (same s.spelling w) (name_of s.offset (length w)) (known_name ss w) p

known-skip : (s : Spelling) (ss : List Spelling) (w : Bytes) → same s.spelling w ≡ false → known_name (s ∷ ss) w ≡ known_name ss w
unfolding known_name
known-skip s ss w p = nay (same s.spelling w) (name_of s.offset (length w)) (known_name ss w) p

pub known_kept : (names : List Spelling) (sp : Spelling) (w : Bytes) → (known_name names w ≡ 0 → ⊥) → known_name (names ++ sp ∷ []) w ≡ known_name names w
unfolding known_name
known_kept [] sp w h = absurd (h refl)
known_kept (s ∷ ss) sp w h = by (same s.spelling w) refl (known_kept ss sp w)
  where
    by : (t : Bool) → same s.spelling w ≡ t → ((known_name ss w ≡ 0 → ⊥) → known_name (ss ++ sp ∷ []) w ≡ known_name ss w) → known_name (s ∷ (ss ++ sp ∷ [])) w ≡ known_name (s ∷ ss) w
    by true p f = known_step s (ss ++ sp ∷ []) w p ∙ sym (known_step s ss w p)
    by false p f = known-skip s (ss ++ sp ∷ []) w p ∙ (f (λ q. h (known-skip s ss w p ∙ q)) ∙ sym (known-skip s ss w p))

pub known-new : (names : List Spelling) (sp : Spelling) (w : Bytes) → known_name names w ≡ 0 → 0 < length w → same sp.spelling w ≡ true → known_name (names ++ sp ∷ []) w ≡ name_of sp.offset (length w)
unfolding name_of
known-new [] sp w z l e = known_step sp [] w e
known-new (s ∷ ss) sp w z l e = by (same s.spelling w) refl (known-new ss sp w)
  where
    by : (t : Bool) → same s.spelling w ≡ t → (known_name ss w ≡ 0 → 0 < length w → same sp.spelling w ≡ true → known_name (ss ++ sp ∷ []) w ≡ name_of sp.offset (length w))
        → known_name (s ∷ (ss ++ sp ∷ [])) w ≡ name_of sp.offset (length w)
    by true p f = let q : 65536 * length w + s.offset ≡ 0 = sym (known_step s ss w p) ∙ z in absurd (omega arith)
    by false p f = known-skip s (ss ++ sp ∷ []) w p ∙ f (sym (known-skip s ss w p) ∙ z) l e

pub known_only : (names : List Spelling) (sp : Spelling) (w : Bytes) → known_name names w ≡ 0 → (known_name (names ++ sp ∷ []) w ≡ 0 → ⊥) → same sp.spelling w ≡ true
known_only [] sp w z h = by (same sp.spelling w) refl
  where
    by : (t : Bool) → same sp.spelling w ≡ t → same sp.spelling w ≡ true
    by true p = p
    by false p = absurd (h (known-skip sp [] w p ∙ z))
known_only (s ∷ ss) sp w z h = by (same s.spelling w) refl (known_only ss sp w)
  where
    by : (t : Bool) → same s.spelling w ≡ t → (known_name ss w ≡ 0 → (known_name (ss ++ sp ∷ []) w ≡ 0 → ⊥) → same sp.spelling w ≡ true) → same sp.spelling w ≡ true
    by true p f = absurd (h (known_step s (ss ++ sp ∷ []) w p ∙ (sym (known_step s ss w p) ∙ z)))
    by false p f = f (sym (known-skip s ss w p) ∙ z) (λ q. h (known-skip s (ss ++ sp ∷ []) w p ∙ q))

-- a token more
module _ (text : Bytes) (ks ns : List ℕ) (count : ℕ) (names names' : List Spelling) (k v : ℕ) (h : Named text ks ns count names)
    (lk : count < length ks) (ln : count < length ns)
    (keep : (w : Bytes) → (known_name names w ≡ 0 → ⊥) → known_name names' w ≡ known_name names w)
    (new : (w : Bytes) → (known_name names' w ≡ 0 → ⊥) → known_name names w ≡ 0 → (is_name k ≡ true) × (spelled_by text v ≡ w))
    (name : is_name k ≡ true → Good text names' v) where
  good-kept : (n : ℕ) → Good text names n → Good text names' n
  good-kept n g = record { inside = g.inside; known = keep (spelled_by text n) (λ z. let p = g.some in let q = g.known in absurd (omega arith)) ∙ g.known; some = g.some }

  good-by : (j : ℕ) (t : Bool) → eqb j count ≡ t → j < count + 1 → is_name (get_or (set ks count k) j 0) ≡ true → Good text names' (get_or (set ns count v) j 0)
  good-by j true e p q =
      let i = eqb-true j count e in
      rw (get_d_set_at ns count j v 0 ln i) (name (sym (ap is_name (get_d_set_at ks count j k 0 lk i)) ∙ q))
  good-by j false e p q =
      let i = eqb-false j count e in
      let l : j < count = omega arith in
      rw (get_d_set_before ns count j v 0 l) (good-kept (get_or ns j 0) (h.good j l (sym (ap is_name (get_d_set_before ks count j k 0 l)) ∙ q)))

  stands_by : (w : Bytes) → (known_name names' w ≡ 0 → ⊥) → (t : Bool) → eqb (known_name names w) 0 ≡ t
      → (j : ℕ) × (j < count + 1) × (is_name (get_or (set ks count k) j 0) ≡ true) × (spelled_by text (get_or (set ns count v) j 0) ≡ w)
  stands_by w z true e =
      let u = new w z (eqb-true (known_name names w) 0 e) in
      (count, omega arith, ap is_name (get_d_set_at ks count count k 0 lk refl) ∙ u.0, ap (λ (n : ℕ). spelled_by text n) (get_d_set_at ns count count v 0 ln refl) ∙ u.1)
  stands_by w z false e =
      let u = h.stands w (eqb-false (known_name names w) 0 e) in
      let l = u.1 in
      (u.0, omega (arith, l), ap is_name (get_d_set_before ks count u.0 k 0 u.1) ∙ u.2, ap (λ (n : ℕ). spelled_by text n) (get_d_set_before ns count u.0 v 0 u.1) ∙ u.3)

  pub more : Named text (set ks count k) (set ns count v) (count + 1) names'
  more = record { good = λ j p q. good-by j (eqb j count) refl p q; stands = λ w z. stands_by w z (eqb (known_name names w) 0) refl }

-- a token that is no name
pub plain_more : (text : Bytes) (ks ns : List ℕ) (count : ℕ) (names : List Spelling) (k v : ℕ) → Named text ks ns count names → count < length ks → count < length ns → is_name k ≡ false
    → Named text (set ks count k) (set ns count v) (count + 1) names
plain_more text ks ns count names k v h lk ln e =
    more text ks ns count names names k v h lk ln (λ w z. refl) (λ w z q. absurd (z q)) (λ q. let f = sym e ∙ q in let y : ◌≡◌ {A = ℕ} 0 1 = cc in absurd (omega arith))

-- a name
pub record Pushed (text : Bytes) (ks ns : List ℕ) (count at next k r : ℕ) (line : Bool) (ts : List Token) (names : List Spelling) : Type 0 where
  pub names' : List Spelling
  pub same : push_name k (take (next - at) (from text at)) (state at line ts names) ≡ state next false (ts ++ record { kind = k; place = at; number = r } ∷ []) names'
  pub named : Named text (set ks count k) (set ns count r) (count + 1) names'

module _ (text : Bytes) (ks ns : List ℕ) (count at next k r : ℕ) (line : Bool) (ts : List Token) (names : List Spelling) (h : Named text ks ns count names)
    (lk : count < length ks) (ln : count < length ns) (on : at < next) (within : next ≤ length text) (short : length text ≤ max_text) (name : is_name k ≡ true) where
  abbrev word : Bytes
  word = take (next - at) (from text at)

  word-long : length word ≡ next - at
  word-long = part-long text at (next - at) (omega arith)

  word_end : at + length word ≡ next
  word_end = let l = word-long in omega arith

  known-push : known_name names word ≡ r → (r ≡ 0 → ⊥) → push_name k word (state at line ts names) ≡ state next false (ts ++ record { kind = k; place = at; number = r } ∷ []) names
  unfolding push_name push
  known-push e z =
      eq_no (known_name names word) 0 _ _ (λ q. z (sym e ∙ q))
      ∙ (ap (λ (n : ℕ). push k n (at + length word) (state at line ts names)) e ∙ ap (λ (n : ℕ). push k r n (state at line ts names)) word_end)

  pub met-known : (j : ℕ) → j < count → is_name_of text word (get_or ks j 0) (get_or ns j 0) ≡ true → r ≡ get_or ns j 0 → Pushed text ks ns count at next k r line ts names
  met-known j p e q =
      let b = name_was text word (get_or ks j 0) (get_or ns j 0) e in
      let g = h.good j p b.0 in
      let i = g.some in
      let gr : Good text names r = rw q g in
      record {
        names' = names;
        same = known-push (ap (known_name names) b.1 ∙ (g.known ∙ sym q)) (λ z. absurd (omega (arith, i, q, z)));
        named = more text ks ns count names names k r h lk ln (λ w z. refl) (λ w z x. absurd (z x)) (λ x. gr);
      }

  unknown : ((j : ℕ) → j < count → is_name_of text word (get_or ks j 0) (get_or ns j 0) ≡ false) → (t : Bool) → eqb (known_name names word) 0 ≡ t → known_name names word ≡ 0
  unknown f true e = eqb-true (known_name names word) 0 e
  unknown f false e =
      let u = h.stands word (eqb-false (known_name names word) 0 e) in
      let c = sym (name-is text word (get_or ks u.0 0) (get_or ns u.0 0) u.2 u.3) ∙ f u.0 u.1 in
      let y : ◌≡◌ {A = ℕ} 0 1 = cc in absurd (omega arith)

  abbrev spelling : Spelling
  spelling = record { spelling = word; offset = at }

  new-push : known_name names word ≡ 0 → r ≡ name_of at (next - at) → push_name k word (state at line ts names) ≡ state next false (ts ++ record { kind = k; place = at; number = r } ∷ []) (names ++ spelling ∷ [])
  unfolding push_name push meet
  new-push e q =
      eq_yes (known_name names word) 0 _ _ e
      ∙ (ap (λ (n : ℕ). push k (name_of at n) (at + length word) (meet word (state at line ts names))) word-long
      ∙ (ap (λ (n : ℕ). push k n (at + length word) (meet word (state at line ts names))) (sym q) ∙ ap (λ (n : ℕ). push k r n (meet word (state at line ts names))) word_end))

  pub met-new : ((j : ℕ) → j < count → is_name_of text word (get_or ks j 0) (get_or ns j 0) ≡ false) → r ≡ name_of at (next - at) → Pushed text ks ns count at next k r line ts names
  unfolding name_of
  met-new f q =
      let z = unknown f (eqb (known_name names word) 0) refl in
      let o = parts-new text at next r on within short q in
      let a = o.0 in
      let b = o.1 in
      let l = word-long in
      let s : spelled_by text r ≡ word = spelled-new text at next r on within short q in
      let n : known_name (names ++ spelling ∷ []) word ≡ name_of at (length word) = known-new names spelling word z (omega arith) (same_refl word) in
      let m : name_of at (length word) ≡ r = ap (name_of at) l ∙ sym q in
      let g : Good text (names ++ spelling ∷ []) r = record { inside = record { within = omega arith }; known = ap (known_name (names ++ spelling ∷ [])) s ∙ (n ∙ m); some = omega (arith, q, on) } in
      record {
        names' = names ++ spelling ∷ [];
        same = new-push z q;
        named = more text ks ns count names (names ++ spelling ∷ []) k r h lk ln (λ w. known_kept names spelling w) (λ w x e. (name, s ∙ same-equal word w (known_only names spelling w e x))) (λ x. g);
      }

  pub met : Finds text ks ns count at next r → Pushed text ks ns count at next k r line ts names
  met (found j p e q) = met-known j p e q
  met (fresh f q) = met-new f q
