-- From the tokens to the text, from the front of a slice to the whole, and to what the caller is told. Assumes nothing.
use mathlib.Core.Path.{◌≡◌, refl, sym, ap, ◌∙◌}
use mathlib.Core.Bool.{true, false, ◌&&◌, and-eq-true_iff}
use mathlib.Core.Option.{Option, none, some}
use mathlib.Core.List.{List, ◌++◌}
use Prim.Native.Nat.{ℕ, ◌+◌, ◌-◌, ◌*◌, ◌≤◌}
use native.Mathlib.Omega.{arith}
use lib.Dec.{leb}
use lib.IntN.{ℤ}
use lib.ListN.{length, take, drop, replicate, length-append, length-replicate, take-append-drop}
use lib.Seq.{take_at}
use borrow.Author.Tests.{le-leb, leb-true}
use Rattle.definition.specs.Answer.{Answer, got, refused, ◌>>=◌}
use Rattle.definition.specs.Refusal.{bad_call}
use Rattle.definition.specs.Text.{Bytes}
use Rattle.definition.specs.Place.{Place, place_of}
use Rattle.definition.specs.Token.{Lexed}
use Rattle.definition.specs.Model.{Model, model_of}
use Rattle.definition.specs.Cut.{tokenize}
use Rattle.definition.specs.Entry as meant
use Rattle.definition.specs.Lent.{Lent, long_enough, zeroed, left_in}
use Rattle.definition.specs.Table.{new_table}
use Rattle.definition.specs.Region.{words_length, wides_length, signeds_length}
use Rattle.definition.specs.Limit.{max_text}
use Rattle.lemmas.proofs.Lists.{length_of_replicate}
use Rattle.table.specs.Held.{Encodes}
use Rattle.definition_laws.specs.Columns.{Columns}
use Rattle.definition_laws.proofs.Columns.{tokenize-columns, tokenize-end, tokenize-placed}
use Rattle.definition_laws.proofs.Left.{Long}
use Rattle.scan.specs.declared.Spot.{Spot}
use Rattle.scan.specs.Where.{place}
use Rattle.lemmas.proofs.Branch.{yes, nay}
use Rattle.spellings.specs.Chain.{HeadCount, few, many}
use Rattle.name_table.specs.Striking.{PlacesBelow}
use Rattle.lexer.specs.Columns as columns
use Rattle.encoding.specs.Refusals.{number_of, answer}
use Rattle.encoding.specs.declared.refusals.Refusal.{Refusal}
use Rattle.std.specs.Prelude.{Result, Ok, Err, MatchResult, IsErrAnd}
use Rattle.entry_points.specs.declared.Counts.{Counts}
use Rattle.entry_points.specs.declared.Rejection.{Rejection}
use Rattle.clearing.specs.Slices.{lent}
use Rattle.entry_points.proofs.Front.{fresh-front, front_zeros, front-filled}
use Rattle.entry_points.specs.Answers.{lexed, first_cursor, Read, read_tokens, Scratch, FitsIf, Cleared, as_long, Told, Accepted, Rejected, told, rejected_at, out, shown, answered, Answers}
use Rattle.entry_points.specs.Answers as answers

-- ---- the tokens of a text

-- the first tokens of the columns are those of the text
pub record Lexes (text : Bytes) (ks ps ns : List ℕ) (count : ℕ) : Type 0 where
  pub tokens : Lexed
  pub says : tokenize text ≡ got tokens
  pub same : lexed (take count ks) (take count ps) (take count ns) (length text) ≡ tokens
  pub kinds : count ≤ length ks
  pub places : count ≤ length ps
  pub numbers : count ≤ length ns

padded-front : (n c : ℕ) (xs ys : List ℕ) → ys ≡ columns.padded n xs → length xs ≡ c → take c ys ≡ xs
unfolding columns.padded
padded-front n c xs ys e l = rw e (take_at xs (replicate (n - length xs) 0) c l)

padded-there : (n c : ℕ) (xs ys : List ℕ) → ys ≡ columns.padded n xs → length xs ≡ c → c ≤ length ys
unfolding columns.padded
padded-there n c xs ys e l = rw e (omega (arith, length-append xs (replicate (n - length xs) 0)))

module _ (text : Bytes) {ks ps ns : List ℕ} where
  pub lexes : {count : ℕ} → columns.Tokens (tokenize text) count ks ps ns → Lexes text ks ps ns count
  lexes {count} t =
      let x = t.lexed in
      let c = t.counted in
      let h = (tokenize-columns text).of x t.same in
      let l : length x.places ≡ count = sym c in
      let li : length x.tokens.kinds ≡ count = omega (arith, l, h.places) in
      let lo : length x.tokens.numbers ≡ count = omega (arith, l, h.places, h.numbers) in
      record {
        tokens = x;
        says = t.same;
        same = rw (padded-front (length ks) count _ _ t.kinds li, padded-front (length ps) count _ _ t.places l, padded-front (length ns) count _ _ t.numbers lo, ← ((tokenize-end text).of x t.same));
        kinds = padded-there (length ks) count _ _ t.kinds li;
        places = padded-there (length ps) count _ _ t.places l;
        numbers = padded-there (length ns) count _ _ t.numbers lo;
      }

-- how many heads there are at the most
pub few_heads : {n : ℕ} → HeadCount n → n ≤ 4096
few_heads (few e) = omega arith
few_heads (many e) = omega arith

-- scratch of zeros as long as a text may be
module _ (n heads : ℕ) (text : Bytes) (room : length text ≤ max_text → length text ≤ n) (k : HeadCount heads) {ks ps ns ls : List ℕ} (a : ks ≡ replicate n 0) (b : ps ≡ replicate n 0) (c : ns ≡ replicate n 0)
    (d : ls ≡ replicate (heads + 2 * n) 0) where
  zero_as : (m : ℕ) (l : List ℕ) → l ≡ replicate m 0 → l ≡ replicate (length l) 0
  zero_as m l q = q ∙ ap (λ (i : ℕ). replicate i 0) (sym (length_of_replicate 0 m l q))

  pub cleared_scratch : Scratch text ks ps ns ls heads
  cleared_scratch =
      let x = length_of_replicate 0 n ks a in let y = length_of_replicate 0 n ps b in let z = length_of_replicate 0 n ns c in let u = length_of_replicate 0 (heads + 2 * n) ls d in
      record {
        columns = record { run = λ h. let r = room h in record { fits = h; kinds = omega arith; places = omega arith; numbers = omega arith } };
        zero = record { kinds = zero_as n ks a; places = zero_as n ps b; numbers = zero_as n ns c };
        links = record { hashes = k; zero = zero_as (heads + 2 * n) ls d; run = λ h. let r = room h in omega arith };
      }

module _ {text : Bytes} {ks ps ns : List ℕ} {count : ℕ} (h : Lexes text ks ps ns count) where
  pub text-columns : Columns (take count ks) (take count ps) (take count ns)
  text-columns = let x = h.tokens in let e = h.same in
      let a : take count ks ≡ x.tokens.kinds = ap (λ (y : Lexed). y.tokens.kinds) e in
      let b : take count ps ≡ x.places = ap (λ (y : Lexed). y.places) e in
      let c : take count ns ≡ x.tokens.numbers = ap (λ (y : Lexed). y.tokens.numbers) e in
      rw (a, b, c) ((tokenize-columns text).of x h.says)

  -- places in the list, which stands where the links were
  pub text-places : (ls ls' : List ℕ) (heads : ℕ) → columns.LinksIf text ls heads → length ls' ≡ length ls → PlacesBelow (take count ps) (length ls')
  text-places ls ls' heads f e = let x = h.tokens in
      let p = (tokenize-placed text).of x h.says in
      let b : take count ps ≡ x.places = ap (λ (y : Lexed). y.places) h.same in
      record { at = rw b (λ i l. let q = p.below i l in let m = f.run p.short in omega arith) }

  pub text-done : (entry : meant.Entry) (m : Model) {r : Answer Counts} {w d w' d' : List ℕ} {v v' : List ℤ}
      → Read (read_tokens entry (lexed (take count ks) (take count ps) (take count ns) (length text)) m) w d v r w' d' v' → Read (meant.read_with m entry text) w d v r w' d' v'
  unfolding meant.read_with read_tokens ◌>>=◌
  text-done entry m g = rw h.says (rw h.same at g)

pub text-refused : (text : Bytes) (entry : meant.Entry) (m : Model) (n at : ℕ) {w d : List ℕ} {v : List ℤ} → tokenize text ≡ refused n at → Read (meant.read_with m entry text) w d v (refused n at) w d v
unfolding meant.read_with ◌>>=◌
text-refused text entry m n at e = answers.same n at (rw e) refl refl

-- ---- slices of any length

-- as long as the limits ask
pub record Enough (w d : List ℕ) (v : List ℤ) : Type 0 where
  pub words : words_length ≤ length w
  pub wides : wides_length ≤ length d
  pub signeds : signeds_length ≤ length v

module _ (l : Lent) (w d : List ℕ) (v : List ℤ) (e : lent w d v ≡ zeroed l) where
  w_long : length w ≡ length l.words
  unfolding zeroed
  w_long = ap (λ (x : Lent). length x.words) e ∙ length-replicate _ _

  d_long : length d ≡ length l.wides
  unfolding zeroed
  d_long = ap (λ (x : Lent). length x.wides) e ∙ length-replicate _ _

  v_long : length v ≡ length l.signeds
  unfolding zeroed
  v_long = ap (λ (x : Lent). length x.signeds) e ∙ length-replicate _ _

  long : Enough w d v → Long l
  long h = record { words = omega (arith, h.words, w_long); wides = omega (arith, h.wides, d_long); signeds = omega (arith, h.signeds, v_long) }

  long-yes : Enough w d v → long_enough l ≡ true
  unfolding long_enough
  long-yes h = let k = long h in rw (le-leb words_length (length l.words) k.words, le-leb wides_length (length l.wides) k.wides, le-leb signeds_length (length l.signeds) k.signeds)

  -- cleared once more
  zeroed-again : (w' d' : List ℕ) (v' : List ℤ) → length w' ≡ length w → length d' ≡ length d → length v' ≡ length v → zeroed (lent w' d' v') ≡ zeroed l
  unfolding zeroed
  zeroed-again w' d' v' p q r = rw (p ∙ w_long, q ∙ d_long, r ∙ v_long)

  -- the front part as it was
  front_same : (ws ds : List ℕ) (vs : List ℤ) → lent ws ds vs ≡ lent (take words_length w) (take wides_length d) (take signeds_length v)
      → lent (ws ++ drop words_length w) (ds ++ drop wides_length d) (vs ++ drop signeds_length v) ≡ lent w d v
  front_same ws ds vs q =
      let a : ws ≡ take words_length w = ap (λ (x : Lent). x.words) q in
      let b : ds ≡ take wides_length d = ap (λ (x : Lent). x.wides) q in
      let c : vs ≡ take signeds_length v = ap (λ (x : Lent). x.signeds) q in
      rw (a, b, c, take-append-drop words_length w, take-append-drop wides_length d, take-append-drop signeds_length v)

  -- the test of the lengths is that of the definition
  as_long_lem : as_long (length w) (length d) (length v) ≡ long_enough l
  unfolding long_enough
  as_long_lem = rw (w_long, d_long, v_long)

pub enough : (w d : List ℕ) (v : List ℤ) → as_long (length w) (length d) (length v) ≡ true → Enough w d v
enough w d v e =
    let x = (and-eq-true_iff (leb words_length (length w)) (leb wides_length (length d) && leb signeds_length (length v))).0 e in
    let y = (and-eq-true_iff (leb wides_length (length d)) (leb signeds_length (length v))).0 x.1 in
    record { words = leb-true words_length (length w) x.0; wides = leb-true wides_length (length d) y.0; signeds = leb-true signeds_length (length v) y.1 }

pub front-fresh : (w d : List ℕ) (v : List ℤ) → Cleared w d v → Enough w d v → Encodes new_table first_cursor (take words_length w) (take wides_length d) (take signeds_length v)
front-fresh w d v c h = fresh-front c.of w d v c.is (long c.of w d v c.is h)

-- ---- what is told

-- what is told after a reading
abbrev pub concluded : Bytes → Answer Counts → Told
concluded text (got c) = Accepted c
concluded text (refused n p) = rejected_at text n p

-- its refusal is told with its line and column, from what a closure says of each
pub concludes : {P : Refusal → Rejection → Type 0} (text : Bytes) (r : Result Counts Refusal) (o : Result Counts Rejection) → MatchResult r (λ c. o ≡ Ok c) (λ e. IsErrAnd o (λ z. P e z))
    → ((e : Refusal) (z : Rejection) → P e z → told (Err z) ≡ rejected_at text (number_of e.reason) e.at) → told o ≡ concluded text (answer r)
concludes text (Ok c) o q f = rw q
concludes text (Err e) (Ok c) q f = absurd q
concludes text (Err e) (Err z) q f = f e z q

pub reject_is : (text : Bytes) (n at : ℕ) (s : Spot) → place s ≡ place_of text at → Rejected n at s.line s.column ≡ rejected_at text n at
reject_is text n at s e = ap (λ (p : Place). Rejected n at p.line p.column) e

refused-out : (l : Lent) (text : Bytes) (n at : ℕ) (r : Told) (w d : List ℕ) (v : List ℤ) (a : Answer meant.Accepted) → a ≡ refused n at → r ≡ rejected_at text n at → lent w d v ≡ zeroed l
    → out r (lent w d v) ≡ shown l (meant.told text a)
unfolding shown meant.told left_in
refused-out l text n at r w d v a p q e = rw (p, q, e)

-- of a model that is known: slices that are too short are refused
unfoldable pub read_long : Lent → Model → meant.Entry → Bytes → Answer meant.Accepted
read_long l m entry text = elim (long_enough l) [ true ↦ meant.read_with m entry text | false ↦ refused bad_call 0 ]

pub record Tells (m : Model) (entry : meant.Entry) (text : Bytes) (w d : List ℕ) (v : List ℤ) (r : Told) (w' d' : List ℕ) (v' : List ℤ) : Type 0 where
  pub run : (l : Lent) → lent w d v ≡ zeroed l → out r (lent w' d' v') ≡ shown l (meant.told text (read_long l m entry text))

module _ (m : Model) (entry : meant.Entry) (text : Bytes) (w d : List ℕ) (v : List ℤ) where
  short : (l : Lent) → long_enough l ≡ false → read_long l m entry text ≡ refused 1 0
  unfolding read_long
  short l e = nay (long_enough l) (meant.read_with m entry text) (refused 1 0) e

  tells_short : (r : Told) → ((l : Lent) → lent w d v ≡ zeroed l → long_enough l ≡ false) → r ≡ rejected_at text 1 0 → Tells m entry text w d v r w d v
  tells_short r f q = record { run = λ l e. refused-out l text 1 0 r w d v (read_long l m entry text) (short l (f l e)) q e }

  pub tells_too_short : (r : Told) → as_long (length w) (length d) (length v) ≡ false → r ≡ rejected_at text 1 0 → Tells m entry text w d v r w d v
  tells_too_short r p q = tells_short r (λ l e. sym (as_long_lem l w d v e) ∙ p) q

  -- they are long enough: the text is read into their front, and what lies after it stays zero
  module _ (h : Enough w d v) where
    read-yes : (l : Lent) → lent w d v ≡ zeroed l → read_long l m entry text ≡ meant.read_with m entry text
    unfolding read_long
    read-yes l e = yes (long_enough l) (meant.read_with m entry text) (refused 1 0) (long-yes l w d v e h)

    told-front : (l : Lent) → lent w d v ≡ zeroed l → (r : Answer Counts) (ws ds : List ℕ) (vs : List ℤ) → Read (meant.read_with m entry text) (take words_length w) (take wides_length d) (take signeds_length v) r ws ds vs
        → out (concluded text r) (lent (ws ++ drop words_length w) (ds ++ drop wides_length d) (vs ++ drop signeds_length v)) ≡ shown l (meant.told text (read_long l m entry text))
    unfolding shown meant.told
    told-front l e r ws ds vs (answers.done x p q k) = rw (read-yes l e, p, q, k.words, k.wides, k.signeds, front-filled l w d v e x k.limits k.few)
    told-front l e r ws ds vs (answers.same n at p q s) = refused-out l text n at (concluded text r) _ _ _ (read_long l m entry text) (read-yes l e ∙ p) (ap (λ (x : Answer Counts). concluded text x) q) (front_same l w d v e ws ds vs s ∙ e)
    told-front l e r ws ds vs (answers.stop n at p q s) = refused-out l text n at (concluded text r) _ _ _ (read_long l m entry text) (read-yes l e ∙ p) (ap (λ (x : Answer Counts). concluded text x) q)
        (front_same l w d v e ws ds vs (s ∙ sym (front_zeros l w d v e (long l w d v e h))) ∙ e)

    pub tells_concluded : {r : Answer Counts} {ws ds : List ℕ} {vs : List ℤ} → Read (meant.read_with m entry text) (take words_length w) (take wides_length d) (take signeds_length v) r ws ds vs → (o : Told) → o ≡ concluded text r
        → Tells m entry text w d v o (ws ++ drop words_length w) (ds ++ drop wides_length d) (vs ++ drop signeds_length v)
    tells_concluded {r} {ws} {ds} {vs} f o q = record { run = λ l e. rw q (told-front l e r ws ds vs f) }

module _ (model : ℕ) (entry : meant.Entry) (text : Bytes) (r : Told) (w d : List ℕ) (v : List ℤ) where
  module _ (l : Lent) where
    -- by the model that the number has
    unfoldable by-model : Option Model → Answer meant.Accepted
    by-model o = elim o [ none ↦ refused 1 0 | some m ↦ elim (long_enough l) as (λ z. Answer meant.Accepted) [ true ↦ meant.read_with m entry text | false ↦ refused 1 0 ] ]

    read_by : (o : Option Model) → o ≡ model_of model → meant.read model (long_enough l) entry text ≡ by-model o
    unfolding meant.read by-model
    read_by o e = ap (λ (x : Option Model). by-model x) (sym e)

    known : (m : Model) {w' d' : List ℕ} {v' : List ℤ} → some m ≡ model_of model → lent w d v ≡ zeroed l → Tells m entry text w d v r w' d' v' → out r (lent w' d' v') ≡ answered l model entry text
    unfolding answered meant.outcome read_long by-model
    known m e z t = t.run l z ∙ ap (λ (a : Answer meant.Accepted). shown l (meant.told text a)) (sym (read_by (some m) e))

    unknown : none ≡ model_of model → lent w d v ≡ zeroed l → r ≡ rejected_at text 1 0 → out r (lent w d v) ≡ answered l model entry text
    unfolding answered meant.outcome by-model
    unknown e z q = refused-out l text 1 0 r w d v (meant.read model (long_enough l) entry text) (read_by none e) q z

  pub answer-known : (m : Model) {w' d' : List ℕ} {v' : List ℤ} → some m ≡ model_of model → Tells m entry text w d v r w' d' v' → Answers model entry text w d v r w' d' v'
  answer-known m e t = record { run = λ l z. known l m e z t }

  pub answer-unknown : none ≡ model_of model → r ≡ rejected_at text 1 0 → Answers model entry text w d v r w d v
  answer-unknown e q = record { run = λ l z. unknown l e z q }

  -- slices that were zero when they were lent
  pub answer_zeros : {w' d' : List ℕ} {v' : List ℤ} → Cleared w d v → Answers model entry text w d v r w' d' v' → out r (lent w' d' v') ≡ answered (lent w d v) model entry text
  answer_zeros c a = a.run (lent w d v) (c.is ∙ sym (zeroed-again c.of w d v c.is w d v refl refl refl))
