-- What the stores of the leaves do to the table that the slices hold. Assumes nothing.
use mathlib.Core.Bool.{Bool, true, false}
use mathlib.Core.Path.{◌≡◌, refl, sym, ap, subst, ◌∙◌}
use mathlib.Core.List.{List, [], ◌∷◌, ◌++◌}
use Prim.Native.Nat.{ℕ, ◌+◌, ◌*◌, ◌≤◌, ◌<◌}
use native.Mathlib.Omega.{arith}
use borrow.Author.Tests.{ltb-true, ltb-false}
use lib.Dec.{ltb}
use lib.IntN.{ℤ}
use lib.ListN.{length, get_or, set, length-append, length-set}
use lib.Seq.{set_out, get_or-set_other}
use Rattle.definition.specs.Limit.{max_rows, max_members, max_values, max_parameters, max_declarations}
use Rattle.definition.specs.Row.{Row, kind_of, row_name}
use Rattle.definition.specs.Table.{Table, Member, Value, Parameter, Declaration, storage_number, with_rows, with_members, with_values, with_parameters, with_declarations}
use Rattle.definition.specs.Types.{width_number}
use Rattle.definition.specs.Lent.{member_wides, value_words, parameter_words, wides, signeds}
use Rattle.definition.specs.Region.{members_at, names_at, values_at, parameters_at, declarations_at}
use Rattle.table.specs.Held.{reading_words, value_slot, row_slot, top_at, Bounded, BoundedAt, no_member, no_value, no_parameter, Fits, Counts, InWords, Encodes, last_declaration_at, last_member_at, last_parameter_at, last_row_at, last_value_at}
use Rattle.table.specs.Reply.{numbers, FirstSet}
use Rattle.table.specs.Store.{stored, number_list, row_set, member_row_set, member_place_set, value_row_set, parameter_row_set}
use Rattle.table.specs.declared.Cursor.{Cursor}
use Rattle.table.specs.declared.Numbers.{Numbers}
use Rattle.table.proofs.Regions.{words_row, wides-row, words_set_row, wides_set_row, words-member, wides-member, words_member_row, wides_member_same, wides_member_place, words_member_same, words-value, signeds-value, words_value_row, signeds_value_same, words-parameter, words_parameter_row, words-declaration}
use Rattle.table.proofs.Index.{half-below, index-past, marked_more, marked-on, index-row, index-put, index-value, index_renamed, rest-set}

-- a first number that is set, or none where there is no such entry
set_either : {start columns count i row : ℕ} {w w' : List ℕ} (P : List ℕ → Type 0) → FirstSet start columns count i row w w'
    → (i < count → P (set w (start + columns * i) row)) → (count ≤ i → P w) → P w'
set_either {start} {columns} {count} {i} {row} {w} {w'} P s there past = go (ltb i count) refl
  where
    go : (b : Bool) → ltb i count ≡ b → P w'
    go true q = let p : i < count = ltb-true _ _ q in rw (s.there p) (there p)
    go false q = let p : count ≤ i = ltb-false _ _ q in rw (s.past p) (past p)

module _ {t : Table} {c : Cursor} {w d : List ℕ} {v : List ℤ} (h : Encodes t c w d v) where
  fit : Fits t
  fit = h.words.fits

  pub row-added : (x : Row) (r : Numbers) → r ≡ numbers x → c.rows < max_rows → Bounded r.kind r.name c.rows (get_or h.words.rest (row_slot r.name) 0)
      → Encodes (with_rows t (t.rows ++ x ∷ [])) (record { at = c.at; rows = c.rows + 1; members = c.members; values = c.values; parameters = c.parameters; declarations = c.declarations })
      (stored (set w (names_at + last_row_at) c.rows) (6 * c.rows) (number_list r)) (set d c.rows r.extent) v
  unfolding signeds
  row-added x r e p b =
      let f : Fits (with_rows t (t.rows ++ x ∷ [])) = record { rows = rw length-append (omega (arith, h.counts.rows)); members = fit.members; values = fit.values; parameters = fit.parameters; declarations = fit.declarations } in
      record {
        counts = record { rows = rw length-append (omega (arith, h.counts.rows)); members = h.counts.members; values = h.counts.values; parameters = h.counts.parameters; declarations = h.counts.declarations };
        words = record { fits = f; rest = set h.words.rest last_row_at c.rows; long = length-set h.words.rest _ _ ∙ h.words.long; are = ap (λ (l : List ℕ). stored l (6 * c.rows) (number_list r)) (rest-set h.words last_row_at (names_at + last_row_at) refl c.rows) ∙ rw e (words_row t fit x c.rows h.counts.rows p (set h.words.rest last_row_at c.rows)) };
        index = index-row (index-past h.index last_row_at c.rows (omega arith)) x
            (let u = half-below (row_name x) in
            subst (λ (z : ℕ). Bounded (kind_of x) (row_name x) (length t.rows) z) (sym (get_or-set_other h.words.rest last_row_at (row_slot (row_name x)) c.rows 0 (λ z. omega arith)))
            (subst (λ (k : ℕ). BoundedAt x k h.words.rest) h.counts.rows (subst (λ (y : Numbers). Bounded y.kind y.name c.rows (get_or h.words.rest (row_slot y.name) 0)) e b)));
        marks = marked_more h.marks 0 c.rows (omega arith) refl h.words.long;
        wides = record { fits = f; are = rw (h.wides.are, e) (wides-row t fit x c.rows h.counts.rows p) };
        signeds = record { fits = f; are = h.signeds.are };
      }

  pub member-added : (x : Member) (k : ℕ) → k ≡ width_number x.width → c.members < max_members
      → Encodes (with_members t (t.members ++ x ∷ [])) (record { at = c.at; rows = c.rows; members = c.members + 1; values = c.values; parameters = c.parameters; declarations = c.declarations })
      (stored (set w (names_at + last_member_at) c.members) (members_at + 4 * c.members) (x.row ∷ x.type ∷ x.name ∷ k ∷ [])) (stored d (1024 + 2 * c.members) (member_wides x)) v
  unfolding signeds
  member-added x k e p =
      let f : Fits (with_members t (t.members ++ x ∷ [])) = record { rows = fit.rows; members = rw length-append (omega (arith, h.counts.members)); values = fit.values; parameters = fit.parameters; declarations = fit.declarations } in
      record {
        counts = record { rows = h.counts.rows; members = rw length-append (omega (arith, h.counts.members)); values = h.counts.values; parameters = h.counts.parameters; declarations = h.counts.declarations };
        words = record { fits = f; rest = set h.words.rest last_member_at c.members; long = length-set h.words.rest _ _ ∙ h.words.long; are = ap (λ (l : List ℕ). stored l (members_at + 4 * c.members) (x.row ∷ x.type ∷ x.name ∷ k ∷ [])) (rest-set h.words last_member_at (names_at + last_member_at) refl c.members) ∙ rw e (words-member t fit x c.members h.counts.members p (set h.words.rest last_member_at c.members)) };
        index = index-past h.index last_member_at c.members (omega arith);
        marks = marked_more h.marks 1 c.members (omega arith) refl h.words.long;
        wides = record { fits = f; are = rw h.wides.are (wides-member t fit x c.members h.counts.members p) };
        signeds = record { fits = f; are = h.signeds.are };
      }

  pub value-added : (x : Value) (b : ℕ) → b ≡ names_at + value_slot x.name → c.values < max_values → row_slot x.name < get_or h.words.rest top_at 0
      → Encodes (with_values t (t.values ++ x ∷ [])) (record { at = c.at; rows = c.rows; members = c.members; values = c.values + 1; parameters = c.parameters; declarations = c.declarations })
      (stored (set (set w b (c.values + 1)) (names_at + last_value_at) c.values) (values_at + 2 * c.values) (value_words x)) d (set v c.values x.value)
  unfolding wides
  value-added x b slot p top =
      let f : Fits (with_values t (t.values ++ x ∷ [])) = record { rows = fit.rows; members = fit.members; values = rw length-append (omega (arith, h.counts.values)); parameters = fit.parameters; declarations = fit.declarations } in
      let noted : List ℕ = set h.words.rest (value_slot x.name) (length t.values + 1) in
      let same : set w b (c.values + 1) ≡ reading_words t noted = rest-set h.words (value_slot x.name) b slot (c.values + 1) ∙ ap (λ (k : ℕ). reading_words t (set h.words.rest (value_slot x.name) (k + 1))) h.counts.values in
      let ws : InWords t (set w b (c.values + 1)) = record { fits = fit; rest = noted; long = length-set h.words.rest _ _ ∙ h.words.long; are = same } in
      record {
        counts = record { rows = h.counts.rows; members = h.counts.members; values = rw length-append (omega (arith, h.counts.values)); parameters = h.counts.parameters; declarations = h.counts.declarations };
        words = record {
          fits = f;
          rest = set noted last_value_at c.values;
          long = length-set noted _ _ ∙ ws.long;
          are = ap (λ (l : List ℕ). stored l (values_at + 2 * c.values) (value_words x)) (rest-set ws last_value_at (names_at + last_value_at) refl c.values) ∙ words-value t fit x c.values h.counts.values p (set noted last_value_at c.values);
        };
        index = index-past (index-value h.index x h.words.long) last_value_at c.values (omega arith);
        marks = marked_more {rest = noted} (marked-on h.marks (λ j q. let u = half-below x.name in get_or-set_other h.words.rest (value_slot x.name) j (length t.values + 1) 0 (λ z. omega arith)) (λ j q s. get_or-set_other h.words.rest (value_slot x.name) j (length t.values + 1) 0 (λ z. omega arith))) 2 c.values (omega arith) refl ws.long;
        wides = record { fits = f; are = h.wides.are };
        signeds = record { fits = f; are = rw h.signeds.are (signeds-value t fit x c.values h.counts.values p) };
      }

  pub parameter-added : (x : Parameter) → c.parameters < max_parameters
      → Encodes (with_parameters t (t.parameters ++ x ∷ [])) (record { at = c.at; rows = c.rows; members = c.members; values = c.values; parameters = c.parameters + 1; declarations = c.declarations })
      (stored (set w (names_at + last_parameter_at) c.parameters) (parameters_at + 3 * c.parameters) (parameter_words x)) d v
  unfolding wides signeds
  parameter-added x p =
      let f : Fits (with_parameters t (t.parameters ++ x ∷ [])) = record { rows = fit.rows; members = fit.members; values = fit.values; parameters = rw length-append (omega (arith, h.counts.parameters)); declarations = fit.declarations } in
      record {
        counts = record { rows = h.counts.rows; members = h.counts.members; values = h.counts.values; parameters = rw length-append (omega (arith, h.counts.parameters)); declarations = h.counts.declarations };
        words = record { fits = f; rest = set h.words.rest last_parameter_at c.parameters; long = length-set h.words.rest _ _ ∙ h.words.long; are = ap (λ (l : List ℕ). stored l (parameters_at + 3 * c.parameters) (parameter_words x)) (rest-set h.words last_parameter_at (names_at + last_parameter_at) refl c.parameters) ∙ words-parameter t fit (set h.words.rest last_parameter_at c.parameters) x c.parameters h.counts.parameters p };
        index = index-past h.index last_parameter_at c.parameters (omega arith);
        marks = marked_more h.marks 3 c.parameters (omega arith) refl h.words.long;
        wides = record { fits = f; are = h.wides.are };
        signeds = record { fits = f; are = h.signeds.are };
      }

  pub declaration-added : (x : Declaration) (k : ℕ) → k ≡ storage_number x.storage → c.declarations < max_declarations
      → Encodes (with_declarations t (t.declarations ++ x ∷ [])) (record { at = c.at; rows = c.rows; members = c.members; values = c.values; parameters = c.parameters; declarations = c.declarations + 1 })
      (stored (set w (names_at + last_declaration_at) c.declarations) (declarations_at + 3 * c.declarations) (k ∷ x.type ∷ x.name ∷ [])) d v
  unfolding wides signeds
  declaration-added x k e p =
      let f : Fits (with_declarations t (t.declarations ++ x ∷ [])) = record { rows = fit.rows; members = fit.members; values = fit.values; parameters = fit.parameters; declarations = rw length-append (omega (arith, h.counts.declarations)) } in
      record {
        counts = record { rows = h.counts.rows; members = h.counts.members; values = h.counts.values; parameters = h.counts.parameters; declarations = rw length-append (omega (arith, h.counts.declarations)) };
        words = record { fits = f; rest = set h.words.rest last_declaration_at c.declarations; long = length-set h.words.rest _ _ ∙ h.words.long; are = ap (λ (l : List ℕ). stored l (declarations_at + 3 * c.declarations) (k ∷ x.type ∷ x.name ∷ [])) (rest-set h.words last_declaration_at (names_at + last_declaration_at) refl c.declarations) ∙ rw e (words-declaration t fit (set h.words.rest last_declaration_at c.declarations) x c.declarations h.counts.declarations p) };
        index = index-past h.index last_declaration_at c.declarations (omega arith);
        marks = marked_more h.marks 4 c.declarations (omega arith) refl h.words.long;
        wides = record { fits = f; are = h.wides.are };
        signeds = record { fits = f; are = h.signeds.are };
      }

  -- a row put in the place of another
  module _ (n : ℕ) (x : Row) where
    f_rows : Fits (row_set n x t)
    f_rows = record { rows = rw length-set fit.rows; members = fit.members; values = fit.values; parameters = fit.parameters; declarations = fit.declarations }

    pub row_put : (r : Numbers) → r ≡ numbers x → n < c.rows → Bounded r.kind r.name n (get_or h.words.rest (row_slot r.name) 0) → Encodes (row_set n x t) c (stored w (6 * n) (number_list r)) (set d n r.extent) v
    unfolding signeds
    row_put r e p b = let q : n < length t.rows = omega (arith, h.counts.rows) in record {
      counts = record { rows = rw length-set h.counts.rows; members = h.counts.members; values = h.counts.values; parameters = h.counts.parameters; declarations = h.counts.declarations };
      words = record { fits = f_rows; rest = h.words.rest; long = h.words.long; are = ap (λ (l : List ℕ). stored l (6 * n) (number_list r)) h.words.are ∙ rw e (words_set_row t fit x n q h.words.rest) };
      index = index-put h.index x n q (subst (λ (y : Numbers). Bounded y.kind y.name n (get_or h.words.rest (row_slot y.name) 0)) e b);
      marks = h.marks;
      wides = record { fits = f_rows; are = rw (h.wides.are, e) (wides_set_row t fit x n q) };
      signeds = record { fits = f_rows; are = h.signeds.are };
    }

    pub row-past : c.rows ≤ n → Encodes (row_set n x t) c w d v
    row-past p = let e : set t.rows n x ≡ t.rows = set_out t.rows n x (omega (arith, h.counts.rows)) in rw e h

  -- a member in the place of another: with another row, or at another place
  module _ (i : ℕ) (y : Member) where
    f_members : Fits (with_members t (set t.members i y))
    f_members = record { rows = fit.rows; members = rw length-set fit.members; values = fit.values; parameters = fit.parameters; declarations = fit.declarations }

    c-members : Counts (with_members t (set t.members i y)) c
    c-members = record { rows = h.counts.rows; members = rw length-set h.counts.members; values = h.counts.values; parameters = h.counts.parameters; declarations = h.counts.declarations }

    pub member-past : c.members ≤ i → Encodes (with_members t (set t.members i y)) c w d v
    member-past p = let e : set t.members i y ≡ t.members = set_out t.members i y (omega (arith, h.counts.members)) in rw e h

  pub member_rowed : (i row : ℕ) → i < c.members → Encodes (member_row_set i row t) c (set w (members_at + 4 * i) row) d v
  unfolding signeds
  member_rowed i row p =
      let y : Member = record { row = row; type = (get_or t.members i no_member).type; name = (get_or t.members i no_member).name; width = (get_or t.members i no_member).width; offset = (get_or t.members i no_member).offset; first_bit = (get_or t.members i no_member).first_bit } in
      let q : i < length t.members = omega (arith, h.counts.members) in record {
        counts = c-members i y;
        words = record { fits = f_members i y; rest = h.words.rest; long = h.words.long; are = ap (λ (l : List ℕ). set l (members_at + 4 * i) row) h.words.are ∙ words_member_row t fit y i q h.words.rest refl };
        index = h.index;
        marks = h.marks;
        wides = record { fits = f_members i y; are = h.wides.are ∙ wides_member_same t fit y i q refl };
        signeds = record { fits = f_members i y; are = h.signeds.are };
      }

  pub member-placed : (i o b : ℕ) → i < c.members → Encodes (member_place_set i o b t) c w (set (set d (1024 + 2 * i) o) (1024 + 2 * i + 1) b) v
  unfolding signeds
  member-placed i o b p =
      let y : Member = record { row = (get_or t.members i no_member).row; type = (get_or t.members i no_member).type; name = (get_or t.members i no_member).name; width = (get_or t.members i no_member).width; offset = o; first_bit = b } in
      let q : i < length t.members = omega (arith, h.counts.members) in record {
        counts = c-members i y;
        words = record { fits = f_members i y; rest = h.words.rest; long = h.words.long; are = h.words.are ∙ words_member_same t fit y i q h.words.rest refl };
        index = h.index;
        marks = h.marks;
        wides = record { fits = f_members i y; are = rw h.wides.are (wides_member_place t fit y i q) };
        signeds = record { fits = f_members i y; are = h.signeds.are };
      }

  -- a value with another row
  module _ (i row : ℕ) where
    abbrev y_value : Value
    y_value = record { row = row; name = (get_or t.values i no_value).name; value = (get_or t.values i no_value).value }

    f_values : Fits (value_row_set i row t)
    f_values = record { rows = fit.rows; members = fit.members; values = rw length-set fit.values; parameters = fit.parameters; declarations = fit.declarations }

    pub value_rowed : i < c.values → Encodes (value_row_set i row t) c (set w (values_at + 2 * i) row) d v
    unfolding wides
    value_rowed p = let q : i < length t.values = omega (arith, h.counts.values) in record {
      counts = record { rows = h.counts.rows; members = h.counts.members; values = rw length-set h.counts.values; parameters = h.counts.parameters; declarations = h.counts.declarations };
      words = record { fits = f_values; rest = h.words.rest; long = h.words.long; are = ap (λ (l : List ℕ). set l (values_at + 2 * i) row) h.words.are ∙ words_value_row t fit y_value i q h.words.rest refl };
      index = index_renamed h.index y_value i q refl;
      marks = h.marks;
      wides = record { fits = f_values; are = h.wides.are };
      signeds = record { fits = f_values; are = h.signeds.are ∙ signeds_value_same t fit y_value i q refl };
    }

    pub value-past : c.values ≤ i → Encodes (value_row_set i row t) c w d v
    value-past p = let e : set t.values i y_value ≡ t.values = set_out t.values i y_value (omega (arith, h.counts.values)) in rw e h

  -- a parameter with another row
  module _ (i row : ℕ) where
    abbrev y_parameter : Parameter
    y_parameter = record { row = row; type = (get_or t.parameters i no_parameter).type; name = (get_or t.parameters i no_parameter).name }

    f_parameters : Fits (parameter_row_set i row t)
    f_parameters = record { rows = fit.rows; members = fit.members; values = fit.values; parameters = rw length-set fit.parameters; declarations = fit.declarations }

    pub parameter_rowed : i < c.parameters → Encodes (parameter_row_set i row t) c (set w (parameters_at + 3 * i) row) d v
    unfolding wides signeds
    parameter_rowed p = let q : i < length t.parameters = omega (arith, h.counts.parameters) in record {
      counts = record { rows = h.counts.rows; members = h.counts.members; values = h.counts.values; parameters = rw length-set h.counts.parameters; declarations = h.counts.declarations };
      words = record { fits = f_parameters; rest = h.words.rest; long = h.words.long; are = ap (λ (l : List ℕ). set l (parameters_at + 3 * i) row) h.words.are ∙ words_parameter_row t fit h.words.rest y_parameter i q refl };
      index = h.index;
      marks = h.marks;
      wides = record { fits = f_parameters; are = h.wides.are };
      signeds = record { fits = f_parameters; are = h.signeds.are };
    }

    pub parameter-past : c.parameters ≤ i → Encodes (parameter_row_set i row t) c w d v
    parameter-past p = let e : set t.parameters i y_parameter ≡ t.parameters = set_out t.parameters i y_parameter (omega (arith, h.counts.parameters)) in rw e h

  pub member_row_is : {i row : ℕ} {w' : List ℕ} → FirstSet members_at 4 c.members i row w w' → Encodes (member_row_set i row t) c w' d v
  member_row_is {i} {row} s = set_either (λ l. Encodes (member_row_set i row t) c l d v) s (member_rowed i row) (member-past i _)

  pub value_row_is : {i row : ℕ} {w' : List ℕ} → FirstSet values_at 2 c.values i row w w' → Encodes (value_row_set i row t) c w' d v
  value_row_is {i} {row} s = set_either (λ l. Encodes (value_row_set i row t) c l d v) s (value_rowed i row) (value-past i row)

  pub parameter_row_is : {i row : ℕ} {w' : List ℕ} → FirstSet parameters_at 3 c.parameters i row w w' → Encodes (parameter_row_set i row t) c w' d v
  parameter_row_is {i} {row} s = set_either (λ l. Encodes (parameter_row_set i row t) c l d v) s (parameter_rowed i row) (parameter-past i row)
