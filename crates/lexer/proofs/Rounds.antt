-- The loop over the pieces, and what the entry makes of it. Assumes nothing.
use mathlib.Core.Path.{◌≡◌, refl, sym, ap, ◌∙◌}
use mathlib.Core.Bool.{Bool, true, false}
use mathlib.Core.List.{List, [], ◌∷◌, ◌++◌, map, map-append, append_assoc}
use Prim.Native.Nat.{ℕ, suc, ◌+◌, ◌-◌, ◌*◌, ◌≤◌, ◌<◌}
use native.Mathlib.Omega.{arith}
use lib.ListN.{length, get_or, set, replicate, length-append, length-set, length-map}
use lib.Seq.{set_at}
use Rattle.definition.specs.Answer.{Answer, got, refused}
use Rattle.definition.specs.Text.{Bytes}
use Rattle.definition.specs.Token.{Token}
use Rattle.definition.specs.Cut.{Cutting, push, cut_next, cut_all, cut}
use Rattle.lemmas.proofs.Branch.{le_yes, le_no}
use Rattle.std.specs.Prelude.{Ok, Err}
use Rattle.encoding.specs.Kinds.{kind_number}
use Rattle.encoding.specs.declared.token_kinds.TokenKind.{TokenKind}
use Rattle.encoding.specs.Refusals.{number_of}
use Rattle.encoding.specs.declared.refusals.Refusal.{Refusal}
use Rattle.next_token.specs.Pieces.{state, CutsOn, Goes}
use Rattle.next_token.specs.declared.Piece.TheVariants.{Skip, Token as Piece-as-Token, Name}
use Rattle.lexer.specs.Columns.{padded, Holds, Filled, Room, Zero}
use Rattle.definition.specs.Kind.{is_name}
use Rattle.spellings.specs.Chain.{HeadCount, Rising, Chained}
use Rattle.spellings.proofs.Kept.{chained-plain}
use Rattle.lexer.specs.Names.{Finds, Searches, Stores}
use Rattle.definition.specs.Spelling.{known_name}
use Rattle.lemmas.proofs.Lists.{get_d_replicate_default}
use Rattle.definition_laws.proofs.Same.{then-got, then-refused}
use Rattle.lexer.specs.Going.{Going, Linked}
use Rattle.lexer.proofs.Meeting.{plain_more, met}

-- a number more in a column
pub put-column : (l xs : List ℕ) (i v : ℕ) → l ≡ padded (length l) xs → length xs ≡ i → i < length l → set l i v ≡ padded (length (set l i v)) (xs ++ v ∷ [])
unfolding padded
put-column l xs i v e p h =
    let a : length l - length xs ≡ suc (length l - suc i) = omega arith in
    let b : length (xs ++ v ∷ []) ≡ suc i = rw length-append (omega arith) in
    let c : length (set l i v) - length (xs ++ v ∷ []) ≡ length l - suc i = rw (length-set, b) in
    ap (λ (k : List ℕ). set k i v) (e ∙ ap (λ (n : ℕ). xs ++ replicate n 0) a)
    ∙ (set_at xs 0 (replicate (length l - suc i) 0) v i p ∙ (sym (append_assoc xs (v ∷ []) (replicate (length l - suc i) 0)) ∙ ap (λ (n : ℕ). (xs ++ v ∷ []) ++ replicate n 0) (sym c)))

module _ (ts : List Token) (ks ps ns : List ℕ) (i : ℕ) (t : Token) (h : Holds ts ks ps ns) (n : i ≡ length ts) (lk : i < length ks) (lp : i < length ps) (ln : i < length ns) where
  column : (f : Token → ℕ) (l : List ℕ) → i < length l → l ≡ padded (length l) (map f ts) → set l i (f t) ≡ padded (length (set l i (f t))) (map f (ts ++ t ∷ []))
  column f l p e =
      put-column l (map f ts) i (f t) e (length-map ts f ∙ sym n) p
      ∙ ap (λ (x : List ℕ). padded (length (set l i (f t))) x) (sym (map-append f ts (t ∷ [])))

  pub holds_more : Holds (ts ++ t ∷ []) (set ks i t.kind) (set ps i t.place) (set ns i t.number)
  holds_more = record { kinds = column (λ x. x.kind) ks lk h.kinds; places = column (λ x. x.place) ps lp h.places; numbers = column (λ x. x.number) ns ln h.numbers }

-- the rounds
module _ (text : Bytes) (rounds : ℕ) (s : Cutting) (whole : Answer Cutting) (enough : length text - s.at < rounds) (e : whole ≡ cut_all rounds text s) where
  round : whole ≡ cut_all (suc (rounds - 1)) text s
  round = let q : rounds ≡ suc (rounds - 1) = omega arith in e ∙ ap (λ (k : ℕ). cut_all k text s) q

  pub cut-ends : length text ≤ s.at → whole ≡ got s
  unfolding cut_all
  cut-ends h = round ∙ le_yes _ _ _ _ h

  pub cut_on : s.at < length text → (s' : Cutting) → cut_next text s ≡ got s' → whole ≡ cut_all (rounds - 1) text s'
  unfolding cut_all
  cut_on h s' q = round ∙ (le_no _ _ _ _ h ∙ then-got (cut_next text s) (cut_all (rounds - 1) text) s' q)

  pub cut-stops : s.at < length text → (n p : ℕ) → cut_next text s ≡ refused n p → whole ≡ refused n p
  unfolding cut_all
  cut-stops h n p q = round ∙ (le_no _ _ _ _ h ∙ then-refused (cut_next text s) (cut_all (rounds - 1) text) n p q)

-- a piece
module _ (text : Bytes) (at : ℕ) (line : Bool) (count : ℕ) (ks ps ns : List ℕ) (whole : Answer Cutting) (g : Going text at line count ks ps ns whole) (inside : at < length text) where
  pub go-refused : (e : Refusal) → CutsOn (cut_next text) text at line (Err e) → whole ≡ refused (number_of e.reason) e.at
  go-refused e cuts = cut-stops text g.rounds (state at line g.tokens g.names) whole g.enough g.same inside _ _ (sym (cuts g.tokens g.names))

  pub go-skip : (to : ℕ) (starts : Bool) → CutsOn (cut_next text) text at line (Ok (Skip to starts)) → at < to → Going text to starts count ks ps ns whole
  go-skip to starts cuts o = record {
    tokens = g.tokens;
    names = g.names;
    rounds = g.rounds - 1;
    enough = (let k = g.enough in omega arith);
    same = cut_on text g.rounds (state at line g.tokens g.names) whole g.enough g.same inside (state to starts g.tokens g.names) (sym (cuts g.tokens g.names));
    counted = g.counted;
    few = (let k = g.few in omega arith);
    holds = g.holds;
    named = g.named;
  }

  pub go-count : Room text ks ps ns → (count < length ks) × (count < length ps) × (count < length ns)
  go-count room = let w = g.few in let a = room.fits in let b = room.kinds in let c = room.places in let d = room.numbers in (omega arith, omega arith, omega arith)

  pub go_search : (to : ℕ) → at < to → to ≤ length text → Room text ks ps ns → (ls : List ℕ) (heads : ℕ) → HeadCount heads → heads + 2 * length text ≤ length ls → Chained text ks ns ls heads count
      → Searches text ks ps ns ls heads count at to
  go_search to o p room ls heads l long chained =
      let w = go-count room in
      let y = g.few in
      record {
        kinds = w.0;
        places = w.1;
        numbers = w.2;
        hashes = l;
        links = omega (arith, y, long, inside);
        few = g.few;
        on = o;
        ends = p;
        short = room.fits;
        inside = λ j p q. (g.named.good j p q).inside;
        chained = chained;
      }

  module _ (room : Room text ks ps ns) (ks' ps' ns' : List ℕ) where
    pub go-token : (k : TokenKind) (n to : ℕ) → CutsOn (cut_next text) text at line (Ok (Piece-as-Token k n to)) → at < to → is_name (kind_number k) ≡ false → ks' ≡ set ks count (kind_number k) → ps' ≡ set ps count at → ns' ≡ set ns count n → Going text to false (count + 1) ks' ps' ns' whole
    unfolding push
    go-token k n to cuts o f a b c =
        let w = g.few in
        let l = go-count room in
        rw (a, b, c) (record {
          tokens = g.tokens ++ record { kind = kind_number k; place = at; number = n } ∷ [];
          names = g.names;
          rounds = g.rounds - 1;
          enough = (let z = g.enough in omega arith);
          same = cut_on text g.rounds (state at line g.tokens g.names) whole g.enough g.same inside _ (sym (cuts g.tokens g.names));
          counted = (let z = g.counted in rw length-append (omega arith));
          few = omega arith;
          holds = holds_more g.tokens ks ps ns count (record { kind = kind_number k; place = at; number = n }) g.holds g.counted l.0 l.1 l.2;
          named = plain_more text ks ns count g.names (kind_number k) n g.named l.0 l.2 f;
        })

    pub go-name : (k : TokenKind) (n to : ℕ) → CutsOn (cut_next text) text at line (Ok (Name k to)) → at < to → is_name (kind_number k) ≡ true → to ≤ length text → Finds text ks ns count at to n → ks' ≡ set ks count (kind_number k) → ps' ≡ set ps count at → ns' ≡ set ns count n → Going text to false (count + 1) ks' ps' ns' whole
    go-name k n to cuts o f p finds a b c =
        let w = g.few in
        let l = go-count room in
        let m = met text ks ns count at to (kind_number k) n line g.tokens g.names g.named l.0 l.2 o p room.fits f finds in
        rw (a, b, c) (record {
          tokens = g.tokens ++ record { kind = kind_number k; place = at; number = n } ∷ [];
          names = m.names';
          rounds = g.rounds - 1;
          enough = (let z = g.enough in omega arith);
          same = cut_on text g.rounds (state at line g.tokens g.names) whole g.enough g.same inside _ (sym (cuts g.tokens g.names) ∙ ap (λ (s : Cutting). got s) m.same);
          counted = (let z = g.counted in rw length-append (omega arith));
          few = omega arith;
          holds = holds_more g.tokens ks ps ns count (record { kind = kind_number k; place = at; number = n }) g.holds g.counted l.0 l.1 l.2;
          named = m.named;
        })

-- the beginning and the end
zeros_padded : (l : List ℕ) → l ≡ replicate (length l) 0 → l ≡ padded (length l) []
unfolding padded
zeros_padded l e = let q : length l ≡ length l - 0 = omega arith in e ∙ ap (λ (n : ℕ). replicate n 0) q

pub go-start : (text : Bytes) (ks ps ns : List ℕ) → Zero ks ps ns → Going text 0 true 0 ks ps ns (cut text)
unfolding cut known_name
go-start text ks ps ns z = record {
  tokens = [];
  names = [];
  rounds = suc (length text);
  enough = omega arith;
  same = refl;
  counted = refl;
  few = omega arith;
  holds = record { kinds = zeros_padded ks z.kinds; places = zeros_padded ps z.places; numbers = zeros_padded ns z.numbers };
  named = record { good = λ j p q. absurd (omega arith); stands = λ w h. absurd (h refl) };
}

pub go-done : (text : Bytes) (at : ℕ) (line : Bool) (count : ℕ) (ks ps ns : List ℕ) → Going text at line count ks ps ns (cut text) → length text ≤ at → Filled text count ks ps ns
go-done text at line count ks ps ns g h = record {
  end = state at line g.tokens g.names;
  same = cut-ends text g.rounds (state at line g.tokens g.names) (cut text) g.enough g.same h;
  counted = g.counted;
  holds = g.holds;
}

-- lengths that are kept
long-set : (l l' : List ℕ) (i v : ℕ) → l' ≡ set l i v → length l' ≡ length l
long-set l l' i v e = ap (λ (x : List ℕ). length x) e ∙ length-set l i v

pub room-kept : (text : Bytes) (ks ps ns ks' ps' ns' : List ℕ) → Room text ks ps ns → length ks' ≡ length ks → length ps' ≡ length ps → length ns' ≡ length ns → Room text ks' ps' ns'
room-kept text ks ps ns ks' ps' ns' r a b c =
    let x = r.kinds in let y = r.places in let z = r.numbers in
    record { fits = r.fits; kinds = omega arith; places = omega arith; numbers = omega arith }

-- links of zeros have no trees
rising-start : (ls : List ℕ) (n heads : ℕ) → ls ≡ replicate n 0 → Rising ls heads 0
rising-start ls n heads e = record { low = λ s. (let a = zero-at s in omega arith); rises = λ i b p q. (let a = zero-at (heads + 2 * i + b) in absurd (omega (arith, a, q))) }
  where
    zero-at : (s : ℕ) → get_or ls s 0 ≡ 0
    zero-at s = ap (λ (x : List ℕ). get_or x s 0) e ∙ get_d_replicate_default 0 n s

chained-start : (text : Bytes) (ks ns ls : List ℕ) (n heads : ℕ) → ls ≡ replicate n 0 → Chained text ks ns ls heads 0
chained-start text ks ns ls n heads e = record { rising = rising-start ls n heads e; chain = λ j p q. absurd (omega arith) }

-- the loop with the links
pub link_start : (text : Bytes) (ks ps ns ls : List ℕ) (heads : ℕ) → Room text ks ps ns → Zero ks ps ns → HeadCount heads → heads + 2 * length text ≤ length ls → ls ≡ replicate (length ls) 0 → Linked text 0 true 0 ks ps ns ls heads (cut text)
link_start text ks ps ns ls heads room z l long e = record {
  going = go-start text ks ps ns z;
  room = room;
  hashes = l;
  links = long;
  chained = chained-start text ks ns ls (length ls) heads e;
}

module _ {text : Bytes} {at : ℕ} {line : Bool} {count : ℕ} {ks ps ns ls : List ℕ} {heads : ℕ} {whole : Answer Cutting} (g : Linked text at line count ks ps ns ls heads whole) (inside : at < length text) where
  pub link_refused : (e : Refusal) → CutsOn (cut_next text) text at line (Err e) → whole ≡ refused (number_of e.reason) e.at
  link_refused = go-refused text at line count ks ps ns whole g.going inside

  pub link_skip : (to : ℕ) (starts : Bool) → CutsOn (cut_next text) text at line (Ok (Skip to starts)) → at < to → Linked text to starts count ks ps ns ls heads whole
  link_skip to starts cuts o = record { going = go-skip text at line count ks ps ns whole g.going inside to starts cuts o; room = g.room; hashes = g.hashes; links = g.links; chained = g.chained }

  pub link_count : (count < length ks) × (count < length ps) × (count < length ns)
  link_count = go-count text at line count ks ps ns whole g.going inside g.room

  pub link_search : (k : TokenKind) (to : ℕ) → Goes text at (Name k to) → Searches text ks ps ns ls heads count at to
  link_search k to o = go_search text at line count ks ps ns whole g.going inside to o.0 o.2 g.room ls heads g.hashes g.links g.chained

  pub link_token : (k : TokenKind) (n to : ℕ) {ks' ps' ns' : List ℕ} → CutsOn (cut_next text) text at line (Ok (Piece-as-Token k n to)) → Goes text at (Piece-as-Token k n to) → ks' ≡ set ks count (kind_number k) → ps' ≡ set ps count at → ns' ≡ set ns count n → Linked text to false (count + 1) ks' ps' ns' ls heads whole
  link_token k n to {ks'} {ps'} {ns'} cuts o a b c =
      let w = link_count in
      record {
        going = go-token text at line count ks ps ns whole g.going inside g.room ks' ps' ns' k n to cuts o.0 o.1 a b c;
        room = room-kept text ks ps ns ks' ps' ns' g.room (long-set ks ks' count (kind_number k) a) (long-set ps ps' count at b) (long-set ns ns' count n c);
        hashes = g.hashes;
        links = g.links;
        chained = rw (a, c) (chained-plain text ks ns ls heads count (kind_number k) n g.chained w.0 w.2 o.1);
      }

  pub link_name : (k : TokenKind) (to : ℕ) {ks' ps' ns' ls' : List ℕ} → CutsOn (cut_next text) text at line (Ok (Name k to)) → Goes text at (Name k to) → Stores text ks ps ns heads count (kind_number k) at to ks' ps' ns' ls' → length ls' ≡ length ls → Linked text to false (count + 1) ks' ps' ns' ls' heads whole
  link_name k to {ks'} {ps'} {ns'} {ls'} cuts o s l =
      let long = g.links in
      record {
        going = go-name text at line count ks ps ns whole g.going inside g.room ks' ps' ns' k s.number to cuts o.0 o.1 o.2 s.finds s.kinds s.places s.numbers;
        room = room-kept text ks ps ns ks' ps' ns' g.room (long-set ks ks' count (kind_number k) s.kinds) (long-set ps ps' count at s.places) (long-set ns ns' count s.number s.numbers);
        hashes = g.hashes;
        links = omega (arith, l, long);
        chained = s.chained;
      }
