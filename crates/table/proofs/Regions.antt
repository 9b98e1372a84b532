-- The regions of the lent slices: what a store and a read of each means for the table. Assumes nothing.
use mathlib.Core.Path.{◌≡◌, refl, sym, ap, ◌∙◌}
use mathlib.Core.List.{List, [], ◌∷◌, ◌++◌, append_assoc, append-nil}
use Prim.Native.Nat.{ℕ, ◌+◌, ◌*◌, ◌<◌}
use native.Mathlib.Omega.{arith}
use lib.IntN.{pos}
use lib.ListN.{length, get_or, set, length-append}
use Rattle.definition.specs.Limit.{max_rows, max_members, max_values, max_parameters, max_declarations, max_names}
use Rattle.definition.specs.Row.{Row, void, kind_of, target_of, flags_of, row_name, span_of, extent_of}
use Rattle.definition.specs.Table.{Table, Member, Value, Parameter, Declaration, storage_number, with_rows, with_members, with_values, with_parameters, with_declarations}
use Rattle.definition.specs.Lent.{padded, flat, row_words, member_words, value_words, parameter_words, declaration_words, row_wides, member_wides, value_signeds, table_words, wides, signeds}
use Rattle.definition.specs.Region.{words_length, wides_length, signeds_length, names_at, values_at, parameters_at, declarations_at, members_at}
use Rattle.table.specs.Held.{reading_words, no_member, no_value, no_parameter, no_declaration, Fits}
use Rattle.table.specs.Store.{stored}
use Rattle.table.proofs.Flat.{length-padded, length-flat, flat-same, region-add, region-put, region-number, region-get}

-- ---- the parts

module _ (t : Table) where
  abbrev row_part : List ℕ
  row_part = padded 0 (6 * max_rows) (flat row_words t.rows)

  abbrev member_part : List ℕ
  member_part = padded 0 (4 * max_members) (flat member_words t.members)

  abbrev value_part : List ℕ
  value_part = padded 0 (2 * max_values) (flat value_words t.values)

  abbrev parameter_part : List ℕ
  parameter_part = padded 0 (3 * max_parameters) (flat parameter_words t.parameters)

  abbrev declaration_part : List ℕ
  declaration_part = padded 0 (3 * max_declarations) (flat declaration_words t.declarations)

  module _ (fit : Fits t) where
    row-long : length row_part ≡ 6 * max_rows
    row-long = length-padded 0 (6 * max_rows) (flat row_words t.rows) (rw (length-flat row_words 6 (λ x. refl) t.rows) (omega arith))

    member-long : length member_part ≡ 4 * max_members
    member-long = length-padded 0 (4 * max_members) (flat member_words t.members) (rw (length-flat member_words 4 (λ x. refl) t.members) (omega arith))

    value-long : length value_part ≡ 2 * max_values
    value-long = length-padded 0 (2 * max_values) (flat value_words t.values) (rw (length-flat value_words 2 (λ x. refl) t.values) (omega arith))

    parameter-long : length parameter_part ≡ 3 * max_parameters
    parameter-long = length-padded 0 (3 * max_parameters) (flat parameter_words t.parameters) (rw (length-flat parameter_words 3 (λ x. refl) t.parameters) (omega arith))

    declaration-long : length declaration_part ≡ 3 * max_declarations
    declaration-long = length-padded 0 (3 * max_declarations) (flat declaration_words t.declarations) (rw (length-flat declaration_words 3 (λ x. refl) t.declarations) (omega arith))

    extent_long : length (padded 0 max_rows (flat row_wides t.rows)) ≡ max_rows
    extent_long = length-padded 0 max_rows (flat row_wides t.rows) (rw (length-flat row_wides 1 (λ x. refl) t.rows) (omega arith))

    pub table-long : length (table_words t) ≡ names_at
    unfolding table_words
    table-long = rw (length-append, length-append, length-append, length-append, row-long, member-long, value-long, parameter-long, declaration-long)

    pub words_long : (rest : List ℕ) → length rest ≡ 2 * max_names → length (reading_words t rest) ≡ words_length
    unfolding reading_words
    words_long rest l = rw (length-append, table-long, l)

    pub wides-long : length (wides t) ≡ wides_length
    unfolding wides
    wides-long = rw (length-append, extent_long, length-padded 0 (2 * max_members) (flat member_wides t.members) (rw (length-flat member_wides 2 (λ x. refl) t.members) (omega arith)))

    pub signeds-long : length (signeds t) ≡ signeds_length
    unfolding signeds
    signeds-long = length-padded (pos 0) max_values (flat value_signeds t.values) (rw (length-flat value_signeds 1 (λ x. refl) t.values) (omega arith))

    -- where each region begins
    abbrev before_members : List ℕ
    before_members = row_part

    abbrev before_values : List ℕ
    before_values = row_part ++ member_part

    abbrev before_parameters : List ℕ
    before_parameters = row_part ++ (member_part ++ value_part)

    abbrev before_declarations : List ℕ
    before_declarations = row_part ++ (member_part ++ (value_part ++ parameter_part))

    values-at : length before_values ≡ values_at
    values-at = rw (length-append, row-long, member-long)

    parameters-at : length before_parameters ≡ parameters_at
    parameters-at = rw (length-append, length-append, row-long, member-long, value-long)

    declarations-at : length before_declarations ≡ declarations_at
    declarations-at = rw (length-append, length-append, length-append, row-long, member-long, value-long, parameter-long)

  at_rows : (rest : List ℕ) → reading_words t rest ≡ row_part ++ (member_part ++ (value_part ++ (parameter_part ++ (declaration_part ++ rest))))
  unfolding reading_words table_words flat
  at_rows rest = simp append_assoc

  at-values : (rest : List ℕ) → reading_words t rest ≡ (row_part ++ member_part) ++ (value_part ++ (parameter_part ++ (declaration_part ++ rest)))
  at-values rest = at_rows rest ∙ simp append_assoc

  at-parameters : (rest : List ℕ) → reading_words t rest ≡ (row_part ++ (member_part ++ value_part)) ++ (parameter_part ++ (declaration_part ++ rest))
  at-parameters rest = at_rows rest ∙ simp append_assoc

  at-declarations : (rest : List ℕ) → reading_words t rest ≡ (row_part ++ (member_part ++ (value_part ++ parameter_part))) ++ (declaration_part ++ rest)
  at-declarations rest = at_rows rest ∙ simp append_assoc

-- ---- rows

module _ (t : Table) (fit : Fits t) where
  module _ (x : Row) (n : ℕ) (here : n ≡ length t.rows) (room : n < max_rows) where
    pub words_row : (rest : List ℕ) → stored (reading_words t rest) (6 * n) (row_words x) ≡ reading_words (with_rows t (t.rows ++ x ∷ [])) rest
    words_row rest = ap (λ l. stored l (6 * n) (row_words x)) (at_rows t rest)
        ∙ (region-add row_words 6 (λ y. refl) 0 0 (6 * max_rows) [] (member_part t ++ (value_part t ++ (parameter_part t ++ (declaration_part t ++ rest)))) refl t.rows x (6 * n) (omega arith) (omega arith)
        ∙ sym (at_rows (with_rows t (t.rows ++ x ∷ [])) rest))

    pub wides-row : set (wides t) n (extent_of x) ≡ wides (with_rows t (t.rows ++ x ∷ []))
    unfolding wides
    wides-row = region-add row_wides 1 (λ y. refl) 0 0 max_rows [] (padded 0 (2 * max_members) (flat member_wides t.members)) refl t.rows x n (omega arith) (omega arith)

  module _ (x : Row) (n : ℕ) (there : n < length t.rows) where
    pub words_set_row : (rest : List ℕ) → stored (reading_words t rest) (6 * n) (row_words x) ≡ reading_words (with_rows t (set t.rows n x)) rest
    words_set_row rest = ap (λ l. stored l (6 * n) (row_words x)) (at_rows t rest)
        ∙ (region-put row_words 6 (λ y. refl) 0 0 (6 * max_rows) [] (member_part t ++ (value_part t ++ (parameter_part t ++ (declaration_part t ++ rest)))) refl t.rows x n (6 * n) (omega arith) there
        ∙ sym (at_rows (with_rows t (set t.rows n x)) rest))

    pub wides_set_row : set (wides t) n (extent_of x) ≡ wides (with_rows t (set t.rows n x))
    unfolding wides
    wides_set_row = region-put row_wides 1 (λ y. refl) 0 0 max_rows [] (padded 0 (2 * max_members) (flat member_wides t.members)) refl t.rows x n n (omega arith) there

  pub row_word : (rest : List ℕ) → (n j b : ℕ) → n < max_rows → j < 6 → b ≡ 6 * n + j → get_or (reading_words t rest) b 0 ≡ get_or (row_words (get_or t.rows n void)) j 0
  unfolding kind_of target_of flags_of row_name span_of
  row_word rest n j b p q e = ap (λ l. get_or l b 0) (at_rows t rest)
      ∙ region-get row_words 6 (λ y. refl) 0 0 (6 * max_rows) [] (member_part t ++ (value_part t ++ (parameter_part t ++ (declaration_part t ++ rest)))) refl void t.rows n j b (omega arith) q (omega arith) (omega (arith, fit.rows)) refl

  pub row-wide : (n : ℕ) → n < max_rows → get_or (wides t) n 0 ≡ extent_of (get_or t.rows n void)
  unfolding wides extent_of
  row-wide n p = region-get row_wides 1 (λ y. refl) 0 0 max_rows [] (padded 0 (2 * max_members) (flat member_wides t.members)) refl void t.rows n 0 n (omega arith) (omega arith) (omega arith) (omega (arith, fit.rows)) refl

-- ---- members

module _ (t : Table) (rest : List ℕ) where
  abbrev after_members : List ℕ
  after_members = value_part t ++ (parameter_part t ++ (declaration_part t ++ rest))

module _ (t : Table) where
  abbrev extents : List ℕ
  extents = padded 0 max_rows (flat row_wides t.rows)

  wides-at : wides t ≡ extents ++ (padded 0 (2 * max_members) (flat member_wides t.members) ++ [])
  unfolding wides
  wides-at = ap (λ l. extents ++ l) (sym (append-nil (padded 0 (2 * max_members) (flat member_wides t.members))))

module _ (t : Table) (fit : Fits t) where
  module _ (x : Member) (n : ℕ) (here : n ≡ length t.members) (room : n < max_members) where
    pub words-member : (rest : List ℕ) → stored (reading_words t rest) (members_at + 4 * n) (member_words x) ≡ reading_words (with_members t (t.members ++ x ∷ [])) rest
    words-member rest = ap (λ l. stored l (members_at + 4 * n) (member_words x)) (at_rows t rest)
        ∙ (region-add member_words 4 (λ y. refl) 0 members_at (4 * max_members) (row_part t) (after_members t rest) (row-long t fit) t.members x (members_at + 4 * n) (omega arith) (omega arith)
        ∙ sym (at_rows (with_members t (t.members ++ x ∷ [])) rest))

    pub wides-member : stored (wides t) (1024 + 2 * n) (member_wides x) ≡ wides (with_members t (t.members ++ x ∷ []))
    wides-member = ap (λ l. stored l (1024 + 2 * n) (member_wides x)) (wides-at t)
        ∙ (region-add member_wides 2 (λ y. refl) 0 1024 (2 * max_members) (extents t) [] (extent_long t fit) t.members x (1024 + 2 * n) (omega arith) (omega arith)
        ∙ sym (wides-at (with_members t (t.members ++ x ∷ []))))

  -- a member with another row: its 64-bit numbers stay
  module _ (y : Member) (i : ℕ) (there : i < length t.members) where
    pub words_member_row : (rest : List ℕ) → member_words y ≡ set (member_words (get_or t.members i no_member)) 0 y.row
        → set (reading_words t rest) (members_at + 4 * i) y.row ≡ reading_words (with_members t (set t.members i y)) rest
    words_member_row rest e = ap (λ l. set l (members_at + 4 * i) y.row) (at_rows t rest)
        ∙ (region-number member_words 4 (λ y. refl) 0 members_at (4 * max_members) (row_part t) (after_members t rest) (row-long t fit) no_member t.members y i 0 (members_at + 4 * i) y.row (omega arith) (omega arith) there e
        ∙ sym (at_rows (with_members t (set t.members i y)) rest))

    pub wides_member_same : member_wides y ≡ member_wides (get_or t.members i no_member) → wides t ≡ wides (with_members t (set t.members i y))
    unfolding wides
    wides_member_same e = ap (λ l. extents t ++ padded 0 (2 * max_members) l) (sym (flat-same member_wides no_member t.members y i e))

    -- a member at another place: its 32-bit numbers stay
    pub wides_member_place : stored (wides t) (1024 + 2 * i) (member_wides y) ≡ wides (with_members t (set t.members i y))
    wides_member_place = ap (λ l. stored l (1024 + 2 * i) (member_wides y)) (wides-at t)
        ∙ (region-put member_wides 2 (λ y. refl) 0 1024 (2 * max_members) (extents t) [] (extent_long t fit) t.members y i (1024 + 2 * i) (omega arith) there
        ∙ sym (wides-at (with_members t (set t.members i y))))

    pub words_member_same : (rest : List ℕ) → member_words y ≡ member_words (get_or t.members i no_member) → reading_words t rest ≡ reading_words (with_members t (set t.members i y)) rest
    words_member_same rest e = at_rows t rest ∙ (ap (λ l. row_part t ++ (padded 0 (4 * max_members) l ++ after_members t rest)) (sym (flat-same member_words no_member t.members y i e)) ∙ sym (at_rows (with_members t (set t.members i y)) rest))

  pub member-word : (rest : List ℕ) → (i j b : ℕ) → i < max_members → j < 4 → b ≡ members_at + (4 * i + j) → get_or (reading_words t rest) b 0 ≡ get_or (member_words (get_or t.members i no_member)) j 0
  member-word rest i j b p q e = ap (λ l. get_or l b 0) (at_rows t rest)
      ∙ region-get member_words 4 (λ y. refl) 0 members_at (4 * max_members) (row_part t) (after_members t rest) (row-long t fit) no_member t.members i j b e q (omega arith) (omega (arith, fit.members)) refl

  pub member-wide : (i j b : ℕ) → i < max_members → j < 2 → b ≡ 1024 + (2 * i + j) → get_or (wides t) b 0 ≡ get_or (member_wides (get_or t.members i no_member)) j 0
  member-wide i j b p q e = ap (λ l. get_or l b 0) (wides-at t)
      ∙ region-get member_wides 2 (λ y. refl) 0 1024 (2 * max_members) (extents t) [] (extent_long t fit) no_member t.members i j b e q (omega arith) (omega (arith, fit.members)) refl

-- ---- values

module _ (t : Table) (rest : List ℕ) where
  abbrev after_values : List ℕ
  after_values = parameter_part t ++ (declaration_part t ++ rest)

module _ (t : Table) where
  signeds-at : signeds t ≡ padded (pos 0) max_values (flat value_signeds t.values) ++ []
  unfolding signeds
  signeds-at = sym (append-nil (padded (pos 0) max_values (flat value_signeds t.values)))

module _ (t : Table) (fit : Fits t) where
  module _ (x : Value) (n : ℕ) (here : n ≡ length t.values) (room : n < max_values) where
    pub words-value : (rest : List ℕ) → stored (reading_words t rest) (values_at + 2 * n) (value_words x) ≡ reading_words (with_values t (t.values ++ x ∷ [])) rest
    words-value rest = ap (λ l. stored l (values_at + 2 * n) (value_words x)) (at-values t rest)
        ∙ (region-add value_words 2 (λ y. refl) 0 values_at (2 * max_values) (row_part t ++ member_part t) (after_values t rest) (values-at t fit) t.values x (values_at + 2 * n) (omega arith) (omega arith)
        ∙ sym (at-values (with_values t (t.values ++ x ∷ [])) rest))

    pub signeds-value : set (signeds t) n x.value ≡ signeds (with_values t (t.values ++ x ∷ []))
    signeds-value = ap (λ l. set l n x.value) (signeds-at t)
        ∙ (region-add value_signeds 1 (λ y. refl) (pos 0) 0 max_values [] [] refl t.values x n (omega arith) (omega arith)
        ∙ sym (signeds-at (with_values t (t.values ++ x ∷ []))))

  -- a value with another row
  module _ (y : Value) (i : ℕ) (there : i < length t.values) where
    pub words_value_row : (rest : List ℕ) → value_words y ≡ set (value_words (get_or t.values i no_value)) 0 y.row
        → set (reading_words t rest) (values_at + 2 * i) y.row ≡ reading_words (with_values t (set t.values i y)) rest
    words_value_row rest e = ap (λ l. set l (values_at + 2 * i) y.row) (at-values t rest)
        ∙ (region-number value_words 2 (λ y. refl) 0 values_at (2 * max_values) (row_part t ++ member_part t) (after_values t rest) (values-at t fit) no_value t.values y i 0 (values_at + 2 * i) y.row (omega arith) (omega arith) there e
        ∙ sym (at-values (with_values t (set t.values i y)) rest))

    pub signeds_value_same : value_signeds y ≡ value_signeds (get_or t.values i no_value) → signeds t ≡ signeds (with_values t (set t.values i y))
    unfolding signeds
    signeds_value_same e = ap (padded (pos 0) max_values) (sym (flat-same value_signeds no_value t.values y i e))

  pub value-word : (rest : List ℕ) → (i j b : ℕ) → i < max_values → j < 2 → b ≡ values_at + (2 * i + j) → get_or (reading_words t rest) b 0 ≡ get_or (value_words (get_or t.values i no_value)) j 0
  value-word rest i j b p q e = ap (λ l. get_or l b 0) (at-values t rest)
      ∙ region-get value_words 2 (λ y. refl) 0 values_at (2 * max_values) (row_part t ++ member_part t) (after_values t rest) (values-at t fit) no_value t.values i j b e q (omega arith) (omega (arith, fit.values)) refl

  pub value_signed : (i : ℕ) → i < max_values → get_or (signeds t) i (pos 0) ≡ (get_or t.values i no_value).value
  value_signed i p = ap (λ l. get_or l i (pos 0)) (signeds-at t)
      ∙ region-get value_signeds 1 (λ y. refl) (pos 0) 0 max_values [] [] refl no_value t.values i 0 i (omega arith) (omega arith) (omega arith) (omega (arith, fit.values)) refl

-- ---- parameters

module _ (t : Table) (fit : Fits t) where
  pub words-parameter : (rest : List ℕ) → (x : Parameter) (n : ℕ) → n ≡ length t.parameters → n < max_parameters
      → stored (reading_words t rest) (parameters_at + 3 * n) (parameter_words x) ≡ reading_words (with_parameters t (t.parameters ++ x ∷ [])) rest
  words-parameter rest x n here room = ap (λ l. stored l (parameters_at + 3 * n) (parameter_words x)) (at-parameters t rest)
      ∙ (region-add parameter_words 3 (λ y. refl) 0 parameters_at (3 * max_parameters) (row_part t ++ (member_part t ++ value_part t)) (declaration_part t ++ rest) (parameters-at t fit) t.parameters x (parameters_at + 3 * n) (omega arith) (omega arith)
      ∙ sym (at-parameters (with_parameters t (t.parameters ++ x ∷ [])) rest))

  -- a parameter with another row
  pub words_parameter_row : (rest : List ℕ) → (y : Parameter) (i : ℕ) → i < length t.parameters → parameter_words y ≡ set (parameter_words (get_or t.parameters i no_parameter)) 0 y.row
      → set (reading_words t rest) (parameters_at + 3 * i) y.row ≡ reading_words (with_parameters t (set t.parameters i y)) rest
  words_parameter_row rest y i there e = ap (λ l. set l (parameters_at + 3 * i) y.row) (at-parameters t rest)
      ∙ (region-number parameter_words 3 (λ y. refl) 0 parameters_at (3 * max_parameters) (row_part t ++ (member_part t ++ value_part t)) (declaration_part t ++ rest) (parameters-at t fit) no_parameter t.parameters y i 0 (parameters_at + 3 * i) y.row (omega arith) (omega arith) there e
      ∙ sym (at-parameters (with_parameters t (set t.parameters i y)) rest))

  pub parameter-word : (rest : List ℕ) → (i j b : ℕ) → i < max_parameters → j < 3 → b ≡ parameters_at + (3 * i + j) → get_or (reading_words t rest) b 0 ≡ get_or (parameter_words (get_or t.parameters i no_parameter)) j 0
  parameter-word rest i j b p q e = ap (λ l. get_or l b 0) (at-parameters t rest)
      ∙ region-get parameter_words 3 (λ y. refl) 0 parameters_at (3 * max_parameters) (row_part t ++ (member_part t ++ value_part t)) (declaration_part t ++ rest) (parameters-at t fit) no_parameter t.parameters i j b e q (omega arith) (omega (arith, fit.parameters)) refl

-- ---- declarations

module _ (t : Table) (fit : Fits t) where
  pub words-declaration : (rest : List ℕ) → (x : Declaration) (n : ℕ) → n ≡ length t.declarations → n < max_declarations
      → stored (reading_words t rest) (declarations_at + 3 * n) (declaration_words x) ≡ reading_words (with_declarations t (t.declarations ++ x ∷ [])) rest
  words-declaration rest x n here room = ap (λ l. stored l (declarations_at + 3 * n) (declaration_words x)) (at-declarations t rest)
      ∙ (region-add declaration_words 3 (λ y. refl) 0 declarations_at (3 * max_declarations) (row_part t ++ (member_part t ++ (value_part t ++ parameter_part t))) rest (declarations-at t fit) t.declarations x (declarations_at + 3 * n) (omega arith) (omega arith)
      ∙ sym (at-declarations (with_declarations t (t.declarations ++ x ∷ [])) rest))

  pub declaration-word : (rest : List ℕ) → (i j b : ℕ) → i < max_declarations → j < 3 → b ≡ declarations_at + (3 * i + j) → get_or (reading_words t rest) b 0 ≡ get_or (declaration_words (get_or t.declarations i no_declaration)) j 0
  unfolding storage_number
  declaration-word rest i j b p q e = ap (λ l. get_or l b 0) (at-declarations t rest)
      ∙ region-get declaration_words 3 (λ y. refl) 0 declarations_at (3 * max_declarations) (row_part t ++ (member_part t ++ (value_part t ++ parameter_part t))) rest (declarations-at t fit) no_declaration t.declarations i j b e q (omega arith) (omega (arith, fit.declarations)) refl
