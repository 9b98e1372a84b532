-- Past the last entry of a table the lent slices are zero. Assumes nothing.
use mathlib.Core.Path.{◌≡◌, refl, ap, ◌∙◌}
use mathlib.Core.List.{List}
use Prim.Native.Nat.{ℕ, ◌+◌, ◌-◌, ◌*◌, ◌/◌, ◌%◌, ◌≤◌, ◌<◌}
use native.Mathlib.Omega.{arith}
use native.Mathlib.Nat.{div-add-mod, mod-lt, le-div_iff_mul-le, div-lt_iff_lt-mul}
use lib.IntN.{pos}
use lib.ListN.{length, get_or, replicate, get_or-replicate, get_or-eq_default}
use Rattle.definition.specs.Limit.{max_rows, max_members, max_values, max_parameters, max_declarations}
use Rattle.definition.specs.Row.{void, kind_of, target_of, flags_of, row_name, span_of, extent_of}
use Rattle.definition.specs.Table.{Table, storage_number}
use Rattle.definition.specs.Lent.{row_words, member_words, value_words, parameter_words, declaration_words, member_wides, wides, signeds}
use Rattle.definition.specs.Region.{declarations_at, members_at, values_at, parameters_at, names_at, wides_length}
use Rattle.table.specs.Held.{reading_words, no_member, no_value, no_parameter, no_declaration, Fits}
use Rattle.table.proofs.Regions.{row_word, row-wide, member-word, member-wide, value-word, value_signed, parameter-word, declaration-word}
use Rattle.erasing.specs.Taken.{Zeros}

-- a region of k numbers for an entry, read by entry and column
module _ {A E : Type 0} (f : A → List E) (k : ℕ) (some : 0 < k) (z : E) (d : A) (blank : f d ≡ replicate k z) (at most : ℕ) (xs : List A) (ys : List E)
    (read : (n j b : ℕ) → n < most → j < k → b ≡ at + (k * n + j) → get_or ys b z ≡ get_or (f (get_or xs n d)) j z) where
  pub past : Zeros z (at + length xs * k) (at + most * k) ys
  past i p q =
      let m : ℕ = i - at in
      let a : k * (m / k) + m % k ≡ m = div-add-mod m k in
      let l : length xs ≤ m / k = (le-div_iff_mul-le some).1 (omega arith) in
      read (m / k) (m % k) i ((div-lt_iff_lt-mul some).1 (omega arith)) (mod-lt m some) (omega arith)
      ∙ (ap (λ x. get_or (f x) (m % k) z) (get_or-eq_default xs d l) ∙ (ap (λ x. get_or x (m % k) z) blank ∙ get_or-replicate k (m % k) z z (mod-lt m some)))

module _ (t : Table) (fit : Fits t) where
  module _ (rest : List ℕ) where
    pub rows-past : Zeros 0 (6 * length t.rows) members_at (reading_words t rest)
    unfolding kind_of target_of flags_of row_name span_of
    rows-past i p q = past row_words 6 (omega arith) 0 void refl 0 max_rows t.rows (reading_words t rest) (λ n j b u v e. row_word t fit rest n j b u v (omega arith)) i (omega arith) q

    pub members-past : Zeros 0 (members_at + 4 * length t.members) values_at (reading_words t rest)
    members-past i p q = past member_words 4 (omega arith) 0 no_member refl members_at max_members t.members (reading_words t rest) (member-word t fit rest) i (omega arith) q

    pub values-past : Zeros 0 (values_at + 2 * length t.values) parameters_at (reading_words t rest)
    values-past i p q = past value_words 2 (omega arith) 0 no_value refl values_at max_values t.values (reading_words t rest) (value-word t fit rest) i (omega arith) q

    pub parameters-past : Zeros 0 (parameters_at + 3 * length t.parameters) declarations_at (reading_words t rest)
    parameters-past i p q = past parameter_words 3 (omega arith) 0 no_parameter refl parameters_at max_parameters t.parameters (reading_words t rest) (parameter-word t fit rest) i (omega arith) q

    pub declarations-past : Zeros 0 (declarations_at + 3 * length t.declarations) names_at (reading_words t rest)
    unfolding storage_number
    declarations-past i p q = past declaration_words 3 (omega arith) 0 no_declaration refl declarations_at max_declarations t.declarations (reading_words t rest) (declaration-word t fit rest) i (omega arith) q

  pub extents-past : Zeros 0 (length t.rows) max_rows (wides t)
  unfolding extent_of
  extents-past i p q = row-wide t fit i q ∙ ap extent_of (get_or-eq_default t.rows void p)

  pub places-past : Zeros 0 (1024 + 2 * length t.members) wides_length (wides t)
  places-past i p q = past member_wides 2 (omega arith) 0 no_member refl 1024 max_members t.members (wides t) (member-wide t fit) i (omega arith) q

  pub signeds-past : Zeros (pos 0) (length t.values) max_values (signeds t)
  signeds-past i p q = value_signed t fit i q ∙ ap (λ x. x.value) (get_or-eq_default t.values no_value p)
