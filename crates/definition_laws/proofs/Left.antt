-- The lengths of what an accepted table leaves in the lent slices, and the zeros. Assumes nothing.
use mathlib.Core.Path.{◌≡◌, refl, ◌∙◌}
use mathlib.Core.Bool.{true}
use mathlib.Core.List.{List, [], ◌∷◌, ◌++◌}
use mathlib.Mathlib.Data.Bool.Basic.{and_elim_left, and_elim_right}
use Prim.Native.Nat.{ℕ, ◌+◌, ◌-◌, ◌*◌, ◌≤◌, ◌<◌}
use native.Mathlib.Omega.{arith}
use native.Mathlib.Nat.{mul-suc}
use lib.Dec.{leb}
use lib.IntN.{pos}
use lib.ListN.{length, get_or, replicate, length-append, length-replicate, get_or-append}
use lib.Seq.{get_or-append-add}
use borrow.Author.Tests.{leb-true}
use Rattle.definition.specs.Limit.{max_rows, max_members, max_values, max_parameters, max_declarations, max_names}
use Rattle.definition.specs.Table.{Table}
use Rattle.definition.specs.Entry.{Accepted, accepted, rejected}
use Rattle.definition.specs.Lent.{padded, flat, row_words, member_words, value_words, parameter_words, declaration_words, name_words, table_words, words, row_wides, member_wides, wides, value_signeds, signeds, Lent, long_enough, zeroed, left_in}
use Rattle.definition.specs.Region.{words_length, wides_length, signeds_length}
use Rattle.lemmas.proofs.Lists.{get_d_replicate_default}
use Rattle.definition_laws.specs.Inside.{WithinLimits}
use Rattle.definition_laws.specs.Left.{AllZero, AsLong, Filled, UnusedZero, members_begin, values_begin, parameters_begin, declarations_begin, names_begin}

-- ---- numbers with zeros after them

module _ {E : Type 0} (z : E) (n : ℕ) (xs : List E) where
  pub padded-length : length xs ≤ n → length (padded z n xs) ≡ n
  unfolding padded
  padded-length p = omega (arith, length-append xs (replicate (n - length xs) z), length-replicate (n - length xs) z)

  pub padded-used : (i : ℕ) (d : E) → i < length xs → get_or (padded z n xs) i d ≡ get_or xs i d
  unfolding padded
  padded-used i d p = get_or-append xs (replicate (n - length xs) z) d i p

  pub padded-unused : (i : ℕ) → length xs ≤ i → get_or (padded z n xs) i z ≡ z
  unfolding padded
  padded-unused i p = let e : length xs + (i - length xs) ≡ i = omega arith in
      rw (← e) (get_or-append-add xs (replicate (n - length xs) z) (i - length xs) z ∙ get_d_replicate_default z (n - length xs) (i - length xs))

-- as many numbers for each, one after the other
pub flat-length : {A E : Type 0} (f : A → List E) (k : ℕ) → ((x : A) → length (f x) ≡ k) → (xs : List A) → length (flat f xs) ≡ k * length xs
unfolding flat
flat-length f k h [] = omega arith
flat-length f k h (x ∷ xs) = let a = flat-length f k h xs in let b = h x in omega (arith, length-append (f x) (flat f xs), mul-suc k (length xs))

-- a region of n entries of k numbers each, where there are at most n
region-length : {A E : Type 0} (z : E) (f : A → List E) (k n : ℕ) (xs : List A) → ((x : A) → length (f x) ≡ k) → k * length xs ≤ k * n → length (padded z (k * n) (flat f xs)) ≡ k * n
region-length z f k n xs h p = let a = flat-length f k h xs in padded-length z (k * n) (flat f xs) (omega arith)

-- ---- the lengths of what a table is written as

module _ (t : Table) (h : WithinLimits t) where
  pub table_words-length : length (table_words t) ≡ 6 * max_rows + 4 * max_members + 2 * max_values + 3 * max_parameters + 3 * max_declarations
  unfolding table_words
  table_words-length =
      let a = region-length 0 row_words 6 max_rows t.rows (λ x. refl) (let p = h.rows in omega arith) in
      let b = region-length 0 member_words 4 max_members t.members (λ x. refl) (let p = h.members in omega arith) in
      let c = region-length 0 value_words 2 max_values t.values (λ x. refl) (let p = h.values in omega arith) in
      let d = region-length 0 parameter_words 3 max_parameters t.parameters (λ x. refl) (let p = h.parameters in omega arith) in
      let e = region-length 0 declaration_words 3 max_declarations t.declarations (λ x. refl) (let p = h.declarations in omega arith) in
      simp length-append (omega arith)

  pub wides-length : length (wides t) ≡ wides_length
  unfolding wides
  wides-length =
      let a : length (padded 0 max_rows (flat row_wides t.rows)) ≡ max_rows
      = padded-length 0 max_rows (flat row_wides t.rows) (let p = h.rows in let q = flat-length row_wides 1 (λ x. refl) t.rows in omega arith) in
      let b = region-length 0 member_wides 2 max_members t.members (λ x. refl) (let p = h.members in omega arith) in
      simp length-append (omega arith)

  pub signeds-length : length (signeds t) ≡ signeds_length
  unfolding signeds
  signeds-length = padded-length (pos 0) max_values (flat value_signeds t.values) (let p = h.values in let q = flat-length value_signeds 1 (λ x. refl) t.values in omega arith)

pub words-length : (a : Accepted) → WithinLimits a.table → length a.names ≤ max_names → length (words a) ≡ words_length
unfolding words
words-length a h p =
    let b = table_words-length a.table h in
    let c = region-length 0 name_words 2 max_names a.names (λ x. refl) (omega arith) in
    simp length-append (omega arith)

-- ---- unused entries

-- a zero in the first of two parts, and in the second
module _ {E : Type 0} (z : E) (xs ys : List E) where
  early : (i : ℕ) → i < length xs → get_or xs i z ≡ z → get_or (xs ++ ys) i z ≡ z
  early i p h = get_or-append xs ys z i p ∙ h

  late : (n i : ℕ) → length xs ≡ n → get_or ys i z ≡ z → get_or (xs ++ ys) (n + i) z ≡ z
  late n i e h = rw (← e) (get_or-append-add xs ys i z ∙ h)

-- a region's numbers from those of its last entry on
unused : {A E : Type 0} (z : E) (f : A → List E) (k n i : ℕ) (xs : List A) → ((x : A) → length (f x) ≡ k) → k * length xs ≤ i → get_or (padded z n (flat f xs)) i z ≡ z
unused z f k n i xs h p = let a = flat-length f k h xs in padded-unused z n (flat f xs) i (omega arith)

module _ (t : Table) where
  abbrev R : List ℕ
  R = padded 0 (6 * max_rows) (flat row_words t.rows)

  abbrev RM : List ℕ
  RM = R ++ padded 0 (4 * max_members) (flat member_words t.members)

  abbrev RMV : List ℕ
  RMV = RM ++ padded 0 (2 * max_values) (flat value_words t.values)

  abbrev RMVP : List ℕ
  RMVP = RMV ++ padded 0 (3 * max_parameters) (flat parameter_words t.parameters)

  module _ (h : WithinLimits t) where
    R-length : length R ≡ members_begin
    R-length = region-length 0 row_words 6 max_rows t.rows (λ x. refl) (let p = h.rows in omega arith)

    RM-length : length RM ≡ values_begin
    RM-length = let a = R-length in let b = region-length 0 member_words 4 max_members t.members (λ x. refl) (let p = h.members in omega arith) in simp length-append (omega arith)

    RMV-length : length RMV ≡ parameters_begin
    RMV-length = let a = RM-length in let b = region-length 0 value_words 2 max_values t.values (λ x. refl) (let p = h.values in omega arith) in rw (length-append RM) (omega arith)

    RMVP-length : length RMVP ≡ declarations_begin
    RMVP-length = let a = RMV-length in let b = region-length 0 parameter_words 3 max_parameters t.parameters (λ x. refl) (let p = h.parameters in omega arith) in rw (length-append RMV) (omega arith)

module _ (a : Accepted) (h : WithinLimits a.table) where
  pub unused-zero : UnusedZero a
  unfolding words table_words wides signeds
  unused-zero = let t = a.table in let r = R-length t h in let rm = RM-length t h in let rmv = RMV-length t h in let rmvp = RMVP-length t h in let all = table_words-length t h in record {
    rows = λ i p q. early 0 (table_words t) _ i (omega arith) (early 0 (RMVP t) _ i (omega arith) (early 0 (RMV t) _ i (omega arith) (early 0 (RM t) _ i (omega arith) (early 0 (R t) _ i (omega arith)
        (unused 0 row_words 6 (6 * max_rows) i t.rows (λ x. refl) p)))));
    members = λ i p q. early 0 (table_words t) _ (members_begin + i) (omega arith) (early 0 (RMVP t) _ (members_begin + i) (omega arith) (early 0 (RMV t) _ (members_begin + i) (omega arith) (early 0 (RM t) _ (members_begin + i) (omega arith)
        (late 0 (R t) _ members_begin i r (unused 0 member_words 4 (4 * max_members) i t.members (λ x. refl) p)))));
    values = λ i p q. early 0 (table_words t) _ (values_begin + i) (omega arith) (early 0 (RMVP t) _ (values_begin + i) (omega arith) (early 0 (RMV t) _ (values_begin + i) (omega arith)
        (late 0 (RM t) _ values_begin i rm (unused 0 value_words 2 (2 * max_values) i t.values (λ x. refl) p))));
    parameters = λ i p q. early 0 (table_words t) _ (parameters_begin + i) (omega arith) (early 0 (RMVP t) _ (parameters_begin + i) (omega arith)
        (late 0 (RMV t) _ parameters_begin i rmv (unused 0 parameter_words 3 (3 * max_parameters) i t.parameters (λ x. refl) p)));
    declarations = λ i p q. early 0 (table_words t) _ (declarations_begin + i) (omega arith)
        (late 0 (RMVP t) _ declarations_begin i rmvp (unused 0 declaration_words 3 (3 * max_declarations) i t.declarations (λ x. refl) p));
    names = λ i p. late 0 (table_words t) _ names_begin i all (unused 0 name_words 2 (2 * max_names) i a.names (λ x. refl) p);
    row_wides = λ i p q. early 0 (padded 0 max_rows (flat row_wides t.rows)) _ i (let c = flat-length row_wides 1 (λ x. refl) t.rows in let d = h.rows in omega (arith, padded-length 0 max_rows (flat row_wides t.rows) (omega arith)))
        (unused 0 row_wides 1 max_rows i t.rows (λ x. refl) (omega arith));
    member_wides = λ i p. late 0 (padded 0 max_rows (flat row_wides t.rows)) _ max_rows i (let c = flat-length row_wides 1 (λ x. refl) t.rows in let d = h.rows in padded-length 0 max_rows (flat row_wides t.rows) (omega arith))
        (unused 0 member_wides 2 (2 * max_members) i t.members (λ x. refl) p);
    signeds = λ i p. unused (pos 0) value_signeds 1 max_values i t.values (λ x. refl) (omega arith);
  }

-- ---- what a call leaves

-- a refusal: zeros only
pub refused-zero : (l : Lent) (n at line column : ℕ) → AllZero (left_in l (rejected n at line column))
unfolding left_in zeroed
refused-zero l n at line column = record { words = λ i. get_d_replicate_default 0 (length l.words) i; wides = λ i. get_d_replicate_default 0 (length l.wides) i; signeds = λ i. get_d_replicate_default (pos 0) (length l.signeds) i }

pub refused-long : (l : Lent) (n at line column : ℕ) → AsLong l (left_in l (rejected n at line column))
unfolding left_in zeroed
refused-long l n at line column = record { words = length-replicate _ _; wides = length-replicate _ _; signeds = length-replicate _ _ }

-- the slices are long enough
pub record Long (l : Lent) : Type 0 where
  pub words : words_length ≤ length l.words
  pub wides : wides_length ≤ length l.wides
  pub signeds : signeds_length ≤ length l.signeds

pub long-enough : (l : Lent) → long_enough l ≡ true → Long l
unfolding long_enough
long-enough l e = let r = and_elim_right (leb words_length (length l.words)) _ e in record {
  words = leb-true words_length _ (and_elim_left _ _ e);
  wides = leb-true wides_length _ (and_elim_left (leb wides_length (length l.wides)) _ r);
  signeds = leb-true signeds_length _ (and_elim_right (leb wides_length (length l.wides)) _ r);
}

-- an accepted table
module _ (l : Lent) (a : Accepted) (h : WithinLimits a.table) (p : length a.names ≤ max_names) where
  pub accepted-filled : Filled a (left_in l (accepted a))
  unfolding left_in
  accepted-filled = let b = words-length a h p in let c = wides-length a.table h in let d = signeds-length a.table h in record {
    words_are = λ i q. padded-used 0 (length l.words) (words a) i 0 (omega arith);
    words_after = λ i q. padded-unused 0 (length l.words) (words a) i (omega arith);
    wides_are = λ i q. padded-used 0 (length l.wides) (wides a.table) i 0 (omega arith);
    wides_after = λ i q. padded-unused 0 (length l.wides) (wides a.table) i (omega arith);
    signeds_are = λ i q. padded-used (pos 0) (length l.signeds) (signeds a.table) i (pos 0) (omega arith);
    signeds_after = λ i q. padded-unused (pos 0) (length l.signeds) (signeds a.table) i (omega arith);
  }

  pub accepted-long : Long l → AsLong l (left_in l (accepted a))
  unfolding left_in
  accepted-long e = let b = words-length a h p in let c = wides-length a.table h in let d = signeds-length a.table h in record {
    words = padded-length 0 (length l.words) (words a) (let x = e.words in omega arith);
    wides = padded-length 0 (length l.wides) (wides a.table) (let x = e.wides in omega arith);
    signeds = padded-length (pos 0) (length l.signeds) (signeds a.table) (let x = e.signeds in omega arith);
  }
