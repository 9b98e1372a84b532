-- What the reads of the leaves say of the table that the slices hold. Assumes nothing.
use mathlib.Core.Bool.{Bool, true, false}
use mathlib.Core.Path.{◌≡◌, refl, sym, ap, ◌∙◌}
use mathlib.Core.List.{List}
use Prim.Native.Nat.{ℕ, ◌+◌, ◌*◌, ◌≤◌, ◌<◌}
use native.Mathlib.Omega.{arith}
use borrow.Author.Tests.{ltb-true, ltb-false}
use lib.Dec.{ltb}
use lib.IntN.{ℤ, pos}
use lib.ListN.{length, get_or, replicate, get_or-eq_default}
use Rattle.definition.specs.Limit.{max_rows, max_members, max_values, max_parameters, max_declarations}
use Rattle.definition.specs.Row.{void, kind_of, target_of, flags_of, row_name, span_of, extent_of}
use Rattle.definition.specs.Table.{Table, Declaration, Storage, storage_number, row_at}
use Rattle.encoding.specs.Storage.{storage_numbered}
use Rattle.encoding.proofs.Numbered.{numbered-storage}
use Rattle.definition.specs.Lent.{row_words, row_wides, member_words, member_wides, value_words, parameter_words, declaration_words}
use Rattle.definition.specs.Region.{members_at, values_at, parameters_at, declarations_at}
use Rattle.lemmas.proofs.Lists.{get_d_replicate_default}
use Rattle.table.specs.Held.{member_at, value_at, parameter_at, declaration_at, no_member, no_value, no_parameter, no_declaration, InWords, InSigneds}
use Rattle.table.specs.Reply.{Peek, Entry, WordIs, WideIs}
use Rattle.table.proofs.Regions.{signeds-long, row_word, row-wide, member-word, member-wide, value-word, value_signed, parameter-word, declaration-word}

module _ {t : Table} {w : List ℕ} {b r : ℕ} (p : Peek w b r) (h : InWords t w) (i j : ℕ) where
  pub row_read : i < max_rows → j < 6 → b ≡ 6 * i + j → r ≡ get_or (row_words (row_at t i)) j 0
  row_read l q e = p.is ∙ rw h.are (row_word t h.fits h.rest i j b l q e)

  pub parameter-read : i < max_parameters → j < 3 → b ≡ parameters_at + (3 * i + j) → r ≡ get_or (parameter_words (parameter_at t i)) j 0
  parameter-read l q e = p.is ∙ rw h.are (parameter-word t h.fits h.rest i j b l q e)

-- a number of an entry, whatever the entries are: past the last they are blank
module _ {A X : Type 0} {start columns limit i j : ℕ} {xs : List X} {z r : X} (e : Entry start columns limit xs i j z r) (f : A → List X) (d : A) (ts : List A) where
  entry : length ts ≤ limit → f d ≡ replicate columns z → (i < limit → get_or xs (start + (columns * i + j)) z ≡ get_or (f (get_or ts i d)) j z) → r ≡ get_or (f (get_or ts i d)) j z
  entry fit blank here = go (ltb i limit) refl
    where
      go : (b : Bool) → ltb i limit ≡ b → r ≡ get_or (f (get_or ts i d)) j z
      go true q = e.there (ltb-true _ _ q) ∙ here (ltb-true _ _ q)
      go false q =
          let p : limit ≤ i = ltb-false _ _ q in
          e.past p ∙ sym (ap (λ x. get_or (f x) j z) (get_or-eq_default ts d {n = i} (omega arith)) ∙ (ap (λ l. get_or l j z) blank ∙ get_d_replicate_default z columns j))

-- of each region
module _ {i j r : ℕ} {w : List ℕ} where
  pub row_entry : Entry 0 6 max_rows w i j 0 r → j < 6 → WordIs (λ t. get_or (row_words (row_at t i)) j 0) w r
  unfolding kind_of target_of flags_of row_name span_of
  row_entry e q = record { of = λ t h. entry e row_words void t.rows h.fits.rows refl (λ p. rw h.are (row_word t h.fits h.rest i j _ p q (omega arith))) }

  pub member_entry : Entry members_at 4 max_members w i j 0 r → j < 4 → WordIs (λ t. get_or (member_words (member_at t i)) j 0) w r
  member_entry e q = record { of = λ t h. entry e member_words no_member t.members h.fits.members refl (λ p. rw h.are (member-word t h.fits h.rest i j _ p q (omega arith))) }

  pub value_entry : Entry values_at 2 max_values w i j 0 r → j < 2 → WordIs (λ t. get_or (value_words (value_at t i)) j 0) w r
  value_entry e q = record { of = λ t h. entry e value_words no_value t.values h.fits.values refl (λ p. rw h.are (value-word t h.fits h.rest i j _ p q (omega arith))) }

  pub parameter_entry : Entry parameters_at 3 max_parameters w i j 0 r → j < 3 → WordIs (λ t. get_or (parameter_words (parameter_at t i)) j 0) w r
  parameter_entry e q = record { of = λ t h. entry e parameter_words no_parameter t.parameters h.fits.parameters refl (λ p. rw h.are (parameter-word t h.fits h.rest i j _ p q (omega arith))) }

  pub declaration_entry : Entry declarations_at 3 max_declarations w i j 0 r → j < 3 → WordIs (λ t. get_or (declaration_words (declaration_at t i)) j 0) w r
  unfolding storage_number
  declaration_entry e q = record { of = λ t h. entry e declaration_words no_declaration t.declarations h.fits.declarations refl (λ p. rw h.are (declaration-word t h.fits h.rest i j _ p q (omega arith))) }

module _ {i r : ℕ} {d : List ℕ} where
  pub extent_entry : Entry 0 1 max_rows d i 0 0 r → WideIs (λ t. extent_of (row_at t i)) d r
  unfolding extent_of
  extent_entry e = record { of = λ t h. entry e row_wides void t.rows h.fits.rows refl (λ p. let o : 0 + (1 * i + 0) ≡ i = omega arith in rw (h.are, o) (row-wide t h.fits i p)) }

  pub place_entry : {j : ℕ} → Entry 1024 2 max_members d i j 0 r → j < 2 → WideIs (λ t. get_or (member_wides (member_at t i)) j 0) d r
  place_entry {j} e q = record { of = λ t h. entry e member_wides no_member t.members h.fits.members refl (λ p. rw h.are (member-wide t h.fits i j _ p q (omega arith))) }

-- the slice of the values holds them alone, so nothing stands past them
pub signed_is : {t : Table} {v : List ℤ} (h : InSigneds t v) (i : ℕ) → get_or v i (pos 0) ≡ (value_at t i).value
signed_is {t} {v} h i = go (ltb i max_values) refl
  where
    go : (b : Bool) → ltb i max_values ≡ b → get_or v i (pos 0) ≡ (value_at t i).value
    go true q = rw h.are (value_signed t h.fits i (ltb-true _ _ q))
    go false q =
        let p : max_values ≤ i = ltb-false _ _ q in
        let l : length v ≡ max_values = rw h.are (signeds-long t h.fits) in
        get_or-eq_default v (pos 0) {n = i} (omega arith) ∙ sym (ap (λ x. x.value) (get_or-eq_default t.values no_value {n = i} (omega (arith, h.fits.values))))

-- a declaration from its numbers
pub declaration-made : {x : Declaration} {s : Storage} {number type name : ℕ} → s ≡ storage_numbered number → number ≡ storage_number x.storage → type ≡ x.type → name ≡ x.name
    → ◌≡◌ {A = Declaration} (record { storage = s; type = type; name = name }) x
declaration-made {x} p q r u = rw (p, q, r, u, numbered-storage x.storage)
