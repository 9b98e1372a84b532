-- No listing of an accepted text is longer than `maxListing`. Assumes nothing.
use mathlib.Core.Path.{◌≡◌, refl}
use mathlib.Core.Bool.{Bool, true, false}
use mathlib.Core.Option.{Option, none, some}
use Prim.Native.Nat.{ℕ, suc, ◌*◌, ◌≤◌}
use native.Mathlib.Omega.{arith}
use lib.Dec.{eqb, leb}
use lib.ListN.{length}
use Rattle.definition.specs.Answer.{Answer, got, refused}
use Rattle.definition.specs.Limit.{max_text}
use Rattle.definition.specs.Text.{Bytes}
use Rattle.definition.specs.Kind.{end, semicolon}
use Rattle.definition.specs.Name.{length_of}
use Rattle.definition.specs.Token.{Tokens, Lexed, left}
use Rattle.definition.specs.Model.{Model, lp64, ilp32, llp64, model_of}
use Rattle.definition.specs.Row.{void, row_name}
use Rattle.definition.specs.Table.{Table, new_table, State, skip}
use Rattle.definition.specs.Grammar.{stands}
use Rattle.definition.specs.Reader.{start, all_declarations, translation_unit, optional_semicolon, nothing_more, lone_declaration, one_declaration}
use Rattle.definition.specs.Entry.{Entry, wholeHeader, singleDeclaration, Accepted, parse, read_with, read, accepted, told, outcome}
use Rattle.definition.specs.Listing.{listing, or_lp64, printed, printed_outcome}
use Rattle.definition_laws.specs.Every.{Every}
use Rattle.definition_laws.proofs.Every.{got!, no!, bool!, option!, then!, weaker! }
use Rattle.definition_laws.proofs.Each.{nil, cons}
use Rattle.definition_laws.proofs.Inside.{outcome-inside, in_text_lem}
use Rattle.listing_length.specs.Weight.{sum_of, weight, max_listing}
use Rattle.listing_length.proofs.Fits.{bound_in, Fits}
use Rattle.listing_length.proofs.Listed.{listing-within}
use Rattle.listing_length.proofs.Spelt as spelt
use Rattle.listing_length.proofs.Pays.{Pays, stay, on, skipped}
use Rattle.listing_length.proofs.Readers.{declaration_costs, declarations_from_costs}

-- ---- the two entries, on tokens

new-fits : Fits new_table
unfolding bound_in
new-fits = record { few = omega arith; rows = cons {e = void} (omega arith) nil; members = nil; values = nil }

new-weight : weight new_table ≡ 0
unfolding weight sum_of row_name length_of
new-weight = refl

-- what the names of the tokens read so far pay for
pub record Paid (ts : Tokens) (s : State) : Type 0 where
  pub fits : Fits s.table
  pub weighs : weight s.table ≤ 2 * spelt.read ts s.at

module _ (ts : Tokens) (m : Model) where
  paid : {s : State} → Pays ts (start ts m) 0 s 0 → Paid ts s
  unfolding spelt.read
  paid h = let x = h.weighs in record { fits = h.fits; weighs = omega (arith, new-weight) }

  all_paid : Every (Paid ts) (all_declarations ts m)
  unfolding all_declarations
  all_paid = weaker! (declarations_from_costs ts m (suc (left ts 0)) (start ts m) new-fits) (λ s k. paid k)

  optional_costs : (s : State) → Fits s.table → Pays ts s 0 (optional_semicolon ts m s) 0
  unfolding optional_semicolon
  optional_costs s h = go (stands ts semicolon s)
    where
      go : (b : Bool) → Pays ts s 0 (elim b as (λ z. State) [ true ↦ skip s | false ↦ s ]) 0
      go true = skipped ts s h
      go false = stay h

  lone-paid : Every (Paid ts) (lone_declaration ts m)
  unfolding lone_declaration nothing_more
  lone-paid = then! _ _ (declaration_costs ts m (start ts m) new-fits) λ s k.
      bool! (stands ts end (optional_semicolon ts m s)) (got! (paid (on k (optional_costs s k.fits)))) no!

-- ---- on texts

-- a table of a text
pub record Weighed (text : Bytes) (t : Table) : Type 0 where
  pub short : length text ≤ max_text
  pub fits : Fits t
  pub weighs : weight t ≤ 2 * length text

module _ (text : Bytes) (x : Lexed) (h : spelt.Short text x) (m : Model) where
  weighed : {s : State} → Paid x.tokens s → Weighed text s.table
  weighed {s} k = let a = k.weighs in record { short = h.within; fits = k.fits; weighs = omega (arith, h.names s.at) }

  parse-weighed : (entry : Entry) → Every (Weighed text) (parse entry x m)
  unfolding parse translation_unit one_declaration
  parse-weighed wholeHeader = then! _ _ (in_text_lem x _ (all_paid x.tokens m)) λ s k. got! (weighed k)
  parse-weighed singleDeclaration = then! _ _ (in_text_lem x _ (lone-paid x.tokens m)) λ s k. bool! (leb (length s.table.declarations) 1) (got! (weighed k)) no!

read-weighed : (model : ℕ) (lentEnough : Bool) (entry : Entry) (text : Bytes) → Every (λ (a : Accepted). Weighed text a.table) (read model lentEnough entry text)
unfolding read read_with
read-weighed model lentEnough entry text = option! (model_of model)
    (λ m e. bool! lentEnough (then! _ _ (spelt.tokenize-short text) λ x k. then! _ _ (parse-weighed text x k m entry) λ t h. got! h) no!) no!

-- The names of an accepted table are together no longer than the text twice.
pub outcome-weighed : (model : ℕ) (lentEnough : Bool) (entry : Entry) (text : Bytes) (a : Accepted) → outcome model lentEnough entry text ≡ accepted a → Weighed text a.table
unfolding outcome told
outcome-weighed model lentEnough entry text a e = go (read model lentEnough entry text) (read-weighed model lentEnough entry text) e
  where
    go : (r : Answer Accepted) → Every (λ (a : Accepted). Weighed text a.table) r → told text r ≡ accepted a → Weighed text a.table
    go (got b) h e = let z : b ≡ a = cc in h.of a (rw z)
    go (refused n at) h e = let z : ◌≡◌ {A = ℕ} 0 1 = cc in absurd (omega arith)

-- the alignments of the three models
model-small : (model : ℕ) (m : Model) → model_of model ≡ some m → m.max_align ≤ 16
unfolding model_of lp64 ilp32 llp64
model-small model m e = go (eqb model 0) (eqb model 1) (eqb model 2) e
  where
    of : {k : Model} → some k ≡ some m → k.max_align ≤ 16 → m.max_align ≤ 16
    of {k} e p = let z : k ≡ m = cc in rw (← z) p

    go : (a b c : Bool) → elim a as (λ z. Option Model) [ true ↦ some lp64 | false ↦ elim b as (λ z. Option Model) [ true ↦ some ilp32 | false ↦ elim c as (λ z. Option Model) [ true ↦ some llp64 | false ↦ none ] ] ] ≡ some m
        → m.max_align ≤ 16
    go true b c e = of e (omega arith)
    go false true c e = of e (omega arith)
    go false false true e = of e (omega arith)
    go false false false e = let z : ◌≡◌ {A = ℕ} 0 1 = cc in absurd (omega arith)

-- for any model whose scalars are aligned to 16 at most
pub small-bound : (model : ℕ) (lentEnough : Bool) (entry : Entry) (text : Bytes) (a : Accepted) (m : Model)
    → outcome model lentEnough entry text ≡ accepted a → m.max_align ≤ 16 → length (listing text m a.table) ≤ max_listing
small-bound model lentEnough entry text a m e small =
    let w = outcome-weighed model lentEnough entry text a e in let x = w.short in let y = w.weighs in
    omega (arith, listing-within text a.table (outcome-inside model lentEnough entry text a e) w.fits m small)

-- For every model, entry and text: what is listed of an accepted text fits in a buffer of `maxListing` bytes.
pub listing-bound : (model : ℕ) (lentEnough : Bool) (entry : Entry) (text : Bytes) (a : Accepted) (m : Model)
    → outcome model lentEnough entry text ≡ accepted a → model_of model ≡ some m → length (listing text m a.table) ≤ max_listing
listing-bound model lentEnough entry text a m e f = small-bound model lentEnough entry text a m e (model-small model m f)

-- What is printed of an accepted text is its listing.
pub printed-bound : (model : ℕ) (entry : Entry) (text : Bytes) (a : Accepted) → outcome model true entry text ≡ accepted a → length (printed model entry text) ≤ max_listing
unfolding printed printed_outcome lp64
printed-bound model entry text a e = rw e (go (model_of model) refl)
  where
    go : (o : Option Model) → model_of model ≡ o → length (listing text (or_lp64 o) a.table) ≤ max_listing
    go (some m) f = listing-bound model true entry text a m e f
    go none f = small-bound model true entry text a lp64 e (omega arith)
