-- The index of names: what a note does, and that the stores keep it. Assumes nothing.
use mathlib.Core.Path.{◌≡◌, refl, sym, ap, subst, ◌∙◌}
use mathlib.Core.Bool.{Bool, true, false}
use mathlib.Core.Option.{Option, none, some}
use mathlib.Core.List.{List, [], ◌∷◌, ◌++◌}
use Prim.Native.Nat.{ℕ, zero, suc, ◌+◌, ◌-◌, ◌*◌, ◌/◌, ◌%◌, ◌≤◌, ◌<◌}
use native.Mathlib.Omega.{arith}
use native.Mathlib.Nat.{mod-lt}
use lib.Dec.{eqb, ltb, leb}
use lib.IntN.{ℤ}
use lib.ListN.{length, get_or, set, length-append, length-set, get_or-append}
use lib.Seq.{get_or-append-add, get_or-set_same, get_or-set_other}
use borrow.Author.Tests.{eq-eqb, eqb-true, eqb-false, ne_eqb, ltb-true, ltb-false, leb-true, leb-false}
use Rattle.std.specs.Prelude.{Option as StdOption, Some, None}
use Rattle.std.specs.Option.{SomeIff}
use Rattle.lemmas.specs.Options.{option}
use Rattle.definition.specs.Limit.{max_names}
use Rattle.definition.specs.Name.{no_name}
use Rattle.definition.specs.Row.{Row, void, kind_of, row_name}
use Rattle.definition.specs.RowKind.{typedef_kind}
use Rattle.definition.specs.Table.{Table, Value}
use Rattle.definition.specs.Lent.{table_words}
use Rattle.definition.specs.Region.{names_at}
use Rattle.table.specs.Held.{reading_words, no_value, half_of, value_slot, row_slot, indexed, marks_at, top_at, counts_of, Marked, InWords, bound_of, bound_for, Bounded, BoundedAt, Indexed, Encodes, tag_bound}
use Rattle.table.specs.Noting.{Sooner, Lowered, RowNoted, NotesRow, TopNoted, NotesTop, from_bound, first_named, NoneBefore}
use Rattle.table.specs.declared.Cursor.{Cursor}
use Rattle.lemmas.proofs.Branch.{yes, nay}
use Rattle.table.proofs.Flat.{set_after, get_after}
use Rattle.table.proofs.Regions.{table-long}

pub half-below : (name : ℕ) → half_of name < indexed
unfolding half_of
half-below name = mod-lt _ (omega arith)

-- ---- the marks

module _ {cs rest : List ℕ} (m : Marked cs rest) (k n : ℕ) (p : k < 5) (five : length cs ≡ 5) (l : length rest ≡ 2 * max_names) where
  marks-by : (j : ℕ) (z : Bool) → eqb j k ≡ z → get_or (set cs k (n + 1)) j 0 ≤ get_or (set rest (marks_at + k) n) (marks_at + j) 0 + 1
  marks-by j true e =
      let q : j ≡ k = eqb-true j k e in
      let a : get_or (set rest (marks_at + k) n) (marks_at + j) 0 ≡ n = ap (λ (i : ℕ). get_or (set rest (marks_at + k) n) (marks_at + i) 0) q ∙ get_or-set_same rest (marks_at + k) n 0 (omega arith) in
      let b : get_or (set cs k (n + 1)) k 0 ≡ n + 1 = get_or-set_same cs k (n + 1) 0 (omega arith) in
      let s : get_or (set cs k (n + 1)) j 0 ≡ get_or (set cs k (n + 1)) k 0 = ap (λ (i : ℕ). get_or (set cs k (n + 1)) i 0) q in
      omega arith
  marks-by j false e =
      let q : j ≡ k → ⊥ = eqb-false j k e in
      let a : get_or (set rest (marks_at + k) n) (marks_at + j) 0 ≡ get_or rest (marks_at + j) 0 = get_or-set_other rest (marks_at + k) (marks_at + j) n 0 (λ z. q (omega arith)) in
      let b : get_or (set cs k (n + 1)) j 0 ≡ get_or cs j 0 = get_or-set_other cs k j (n + 1) 0 q in
      omega (arith, m.last j)

  -- an entry more, and its mark
  pub marked_more : Marked (set cs k (n + 1)) (set rest (marks_at + k) n)
  marked_more = record {
    last = λ j. marks-by j (eqb j k) refl;
    blank = λ j q s.
        let a : get_or (set rest (marks_at + k) n) top_at 0 ≡ get_or rest top_at 0 = get_or-set_other rest (marks_at + k) top_at n 0 (λ z. omega arith) in
        get_or-set_other rest (marks_at + k) j n 0 (λ z. omega arith) ∙ m.blank j (omega arith) s;
  }

-- other numbers of the index, below its end
pub marked-on : {cs rest rest' : List ℕ} → Marked cs rest → ((j : ℕ) → marks_at ≤ j → get_or rest' j 0 ≡ get_or rest j 0) → ((j : ℕ) → get_or rest top_at 0 ≤ j → j < marks_at → get_or rest' j 0 ≡ get_or rest j 0) → Marked cs rest'
marked-on m f g = record {
  last = λ k. omega (arith, m.last k, f (marks_at + k) (omega arith));
  blank = λ j p q. let u = f top_at (omega arith) in g j (omega arith) q ∙ m.blank j (omega arith) q;
}

-- the index does not see the marks
pub index-past : {rs : List Row} {vs : List Value} {rest : List ℕ} → Indexed rs vs rest → (m y : ℕ) → marks_at ≤ m → Indexed rs vs (set rest m y)
index-past {rs} {vs} {rest} k m y p = record {
  rows = λ i q. let u = half-below (row_name (get_or rs i void)) in subst (λ (z : ℕ). Bounded (kind_of (get_or rs i void)) (row_name (get_or rs i void)) i z) (sym (get_or-set_other rest m (row_slot (row_name (get_or rs i void))) y 0 (λ z. omega arith))) (k.rows i q);
  values = λ i q. let u = half-below (get_or vs i no_value).name in let e = get_or-set_other rest m (value_slot (get_or vs i no_value).name) y 0 (λ z. omega arith) in omega (arith, k.values i q);
}

-- ---- numbers of the names' part

module _ {t : Table} {w : List ℕ} (h : InWords t w) (j b : ℕ) (e : b ≡ names_at + j) where
  pub rest-get : get_or w b 0 ≡ get_or h.rest j 0
  unfolding reading_words
  rest-get = ap (λ (l : List ℕ). get_or l b 0) h.are ∙ (ap (λ (k : ℕ). get_or (table_words t ++ h.rest) k 0) e ∙ get_after (table_words t) h.rest names_at j 0 (table-long t h.fits))

  pub rest-set : (x : ℕ) → set w b x ≡ reading_words t (set h.rest j x)
  unfolding reading_words
  rest-set x = ap (λ (l : List ℕ). set l b x) h.are ∙ (ap (λ (k : ℕ). set (table_words t ++ h.rest) k x) e ∙ set_after (table_words t) h.rest names_at j x (table-long t h.fits))

-- ---- where the index is blank from

module _ (name : ℕ) {w : List ℕ} (b : ℕ) (e : b ≡ names_at + top_at) where
  pub top_old : row_slot name < get_or w b 0 → NotesTop name w w
  top_old p = record {
    run = λ t h. let g = rest-get h top_at b e in record {
      rest = h.rest;
      long = h.long;
      are = h.are;
      others = λ j u. refl;
      above = omega arith;
      still = omega arith;
    };
  }

  pub top_new : (y : ℕ) → y ≡ 2 * half_of name + 2 → get_or w b 0 < y → NotesTop name w (set w b y)
  top_new y z p = record {
    run = λ t h.
        let g = rest-get h top_at b e in
        let s : get_or (set h.rest top_at y) top_at 0 ≡ y = get_or-set_same h.rest top_at y 0 (omega (arith, h.long)) in
        record {
          rest = set h.rest top_at y;
          long = length-set h.rest top_at y ∙ h.long;
          are = rest-set h top_at b e y;
          others = λ j u. get_or-set_other h.rest top_at j y 0 u;
          above = omega arith;
          still = omega arith;
        };
  }

module _ {t : Table} {c : Cursor} {w d w' : List ℕ} {v : List ℤ} {name : ℕ} (h : Encodes t c w d v) (g : NotesTop name w w') where
  abbrev tn : TopNoted name t h.words.rest w'
  tn = g.run t h.words

  -- the table is held as before
  unfoldable pub topped : Encodes t c w' d v
  topped = record {
    counts = h.counts;
    words = record { fits = h.words.fits; rest = tn.rest; long = tn.long; are = tn.are };
    index = record {
      rows = λ i p. let u = half-below (row_name (get_or t.rows i void)) in subst (λ (z : ℕ). Bounded (kind_of (get_or t.rows i void)) (row_name (get_or t.rows i void)) i z) (sym (tn.others (row_slot (row_name (get_or t.rows i void))) (λ z. omega arith))) (h.index.rows i p);
      values = λ i p. let u = half-below (get_or t.values i no_value).name in let e = tn.others (value_slot (get_or t.values i no_value).name) (λ z. omega arith) in omega (arith, h.index.values i p);
    };
    marks = record {
      last = λ k. last-by k (leb 5 k) refl;
      blank = λ j p q. tn.others j (λ z. omega arith) ∙ h.marks.blank j (omega (arith, tn.still)) q;
    };
    wides = h.wides;
    signeds = h.signeds;
  }
    where
      none_more : (k : ℕ) → 5 ≤ k → get_or (counts_of c) k 0 ≡ 0
      none_more (suc (suc (suc (suc (suc k))))) p = refl
      none_more zero p = absurd (omega arith)
      none_more (suc zero) p = absurd (omega arith)
      none_more (suc (suc zero)) p = absurd (omega arith)
      none_more (suc (suc (suc zero))) p = absurd (omega arith)
      none_more (suc (suc (suc (suc zero)))) p = absurd (omega arith)

      last-by : (k : ℕ) (z : Bool) → leb 5 k ≡ z → get_or (counts_of c) k 0 ≤ get_or tn.rest (marks_at + k) 0 + 1
      last-by k true e = omega (arith, none_more k (leb-true 5 k e))
      last-by k false e = let l : k < 5 = leb-false 5 k e in omega (arith, tn.others (marks_at + k) (λ z. omega arith), h.marks.last k)

  pub topped-here : row_slot name < get_or topped.words.rest top_at 0
  unfolding topped
  topped-here = tn.above

-- ---- a row noted

module _ (kind name n : ℕ) {w : List ℕ} where
  -- nothing to note
  pub note_none : name ≡ 0 → NotesRow kind name n w w
  note_none e = record {
    run = λ t h. record {
      rest = h.rest;
      long = h.long;
      are = h.are;
      others = λ j p. refl;
      here = record { some = λ p. absurd (omega arith); first = λ p. absurd (omega arith) };
      still = λ k p. p;
      lower = λ k p. omega arith;
    };
  }

  pub note_new : (b y : ℕ) → Lowered (eqb kind typedef_kind) (n + 1) (get_or w b 0) y → b ≡ names_at + row_slot name → NotesRow kind name n w (set w b y)
  note_new b y p e = record {
    run = λ t h.
        let g = rest-get h (row_slot name) b e in
        let s : get_or (set h.rest (row_slot name) y) (row_slot name) 0 ≡ y = get_or-set_same h.rest (row_slot name) y 0 (omega (arith, h.long, half-below name)) in
        let q : Lowered (eqb kind typedef_kind) (n + 1) (get_or h.rest (row_slot name) 0) (get_or (set h.rest (row_slot name) y) (row_slot name) 0)
        = subst (λ (z : ℕ). Lowered (eqb kind typedef_kind) (n + 1) z (get_or (set h.rest (row_slot name) y) (row_slot name) 0)) g (subst (λ (z : ℕ). Lowered (eqb kind typedef_kind) (n + 1) (get_or w b 0) z) (sym s) p) in
        record {
          rest = set h.rest (row_slot name) y;
          long = length-set h.rest (row_slot name) y ∙ h.long;
          are = rest-set h (row_slot name) b e y;
          others = λ j p. get_or-set_other h.rest (row_slot name) j y 0 p;
          here = record { some = λ p. q.some; first = λ p. q.here };
          still = λ k u. q.still _ u;
          lower = λ k u. q.lower _ u;
        };
  }

-- a bound for another row stays one
module _ {kind name n : ℕ} {t : Table} {before w' : List ℕ} (k : RowNoted kind name n t before w') (o m i : ℕ) (b : Bounded o m i (get_or before (row_slot m) 0)) where
  bounded_by : (z : Bool) → eqb (row_slot m) (row_slot name) ≡ z → Bounded o m i (get_or k.rest (row_slot m) 0)
  bounded_by true e =
      let q : row_slot m ≡ row_slot name = eqb-true (row_slot m) (row_slot name) e in
      let x : get_or k.rest (row_slot m) 0 ≡ get_or k.rest (row_slot name) 0 = ap (λ (j : ℕ). get_or k.rest j 0) q in
      let y : get_or before (row_slot m) 0 ≡ get_or before (row_slot name) 0 = ap (λ (j : ℕ). get_or before j 0) q in
      let a : Bounded o m i (get_or before (row_slot name) 0) = subst (λ (z : ℕ). Bounded o m i z) y b in
      subst (λ (z : ℕ). Bounded o m i z) (sym x) (record { some = λ p. k.still o (a.some p); first = λ p. omega (arith, a.first p, k.lower o (a.some p)) })
  bounded_by false e = subst (λ (y : ℕ). Bounded o m i y) (sym (k.others (row_slot m) (eqb-false (row_slot m) (row_slot name) e))) b

  pub bounded_on : Bounded o m i (get_or k.rest (row_slot m) 0)
  bounded_on = bounded_by (eqb (row_slot m) (row_slot name)) refl

module _ {t : Table} {c : Cursor} {w d w' : List ℕ} {v : List ℤ} {kind name n : ℕ} (h : Encodes t c w d v) (top : row_slot name < get_or h.words.rest top_at 0) (g : NotesRow kind name n w w') where
  abbrev k : RowNoted kind name n t h.words.rest w'
  k = g.run t h.words

  -- the table is held as before
  unfoldable pub noted : Encodes t c w' d v
  noted = record {
    counts = h.counts;
    words = record { fits = h.words.fits; rest = k.rest; long = k.long; are = k.are };
    index = record {
      rows = λ i p. bounded_on k _ _ i (h.index.rows i p);
      values = λ i p. let e = k.others (value_slot (get_or t.values i no_value).name) (λ q. omega arith) in omega (arith, h.index.values i p);
    };
    marks = marked-on h.marks (λ j p. let u = half-below name in k.others j (λ z. omega arith)) (λ j p q. k.others j (λ z. omega arith));
    wides = h.wides;
    signeds = h.signeds;
  }

  pub noted_here : Bounded kind name n (get_or noted.words.rest (row_slot name) 0)
  unfolding noted
  noted_here = k.here

-- ---- two bounds in one number

module _ (noted row r : ℕ) (p : 0 < row) where
  abbrev with_name : ℕ
  with_name = noted / tag_bound * tag_bound + r

  abbrev with_tag : ℕ
  with_tag = r * tag_bound + noted % tag_bound

  module _ (s : Sooner (noted % tag_bound) row r) (q : r < tag_bound) where
    name-low : with_name % tag_bound ≡ r
    name-low = omega arith

    name_high : with_name / tag_bound ≡ noted / tag_bound
    name_high = omega arith

    name-still : (z : Bool) → 0 < bound_of z noted → 0 < bound_of z with_name
    unfolding bound_of
    name-still true u = omega (arith, name-low, s.some p)
    name-still false u = omega (arith, name_high)

    name-lower : (z : Bool) → 0 < bound_of z noted → bound_of z with_name ≤ bound_of z noted
    unfolding bound_of
    name-lower true u = omega (arith, name-low, s.lower u)
    name-lower false u = omega (arith, name_high)

    pub name_lowered : (z : Bool) → z ≡ true → Lowered z row noted with_name
    unfolding bound_of
    name_lowered z e = rw e (record { some = omega (arith, name-low, s.some p); here = omega (arith, name-low, s.here); still = name-still; lower = name-lower })

  module _ (s : Sooner (noted / tag_bound) row r) where
    tag-low : with_tag % tag_bound ≡ noted % tag_bound
    tag-low = omega arith

    tag_high : with_tag / tag_bound ≡ r
    tag_high = omega arith

    tag-still : (z : Bool) → 0 < bound_of z noted → 0 < bound_of z with_tag
    unfolding bound_of
    tag-still true u = omega (arith, tag-low)
    tag-still false u = omega (arith, tag_high, s.some p)

    tag-lower : (z : Bool) → 0 < bound_of z noted → bound_of z with_tag ≤ bound_of z noted
    unfolding bound_of
    tag-lower true u = omega (arith, tag-low)
    tag-lower false u = omega (arith, tag_high, s.lower u)

    pub tag_lowered : (z : Bool) → z ≡ false → Lowered z row noted with_tag
    unfolding bound_of
    tag_lowered z e = rw e (record { some = omega (arith, tag_high, s.some p); here = omega (arith, tag_high, s.here); still = tag-still; lower = tag-lower })

-- ---- a row more, and a row in the place of another

module _ {rows : List Row} {values : List Value} {rest : List ℕ} (k : Indexed rows values rest) (x : Row) where
  abbrev At : Row → ℕ → Type 0
  At y i = BoundedAt y i rest

  pub index-row : At x (length rows) → Indexed (rows ++ x ∷ []) values rest
  index-row b = record { rows = λ i p. go i p (ltb i (length rows)) refl; values = k.values }
    where
      go : (i : ℕ) → i < length (rows ++ x ∷ []) → (z : Bool) → ltb i (length rows) ≡ z → At (get_or (rows ++ x ∷ []) i void) i
      go i p true e = let q : i < length rows = ltb-true _ _ e in subst (λ (y : Row). At y i) (sym (get_or-append rows (x ∷ []) void i q)) (k.rows i q)
      go i p false e =
          let q : length rows ≤ i = ltb-false _ _ e in
          let s : length rows + 0 ≡ i = omega (arith, length-append rows (x ∷ [])) in
          let u : get_or (rows ++ x ∷ []) i void ≡ x = ap (λ (j : ℕ). get_or (rows ++ x ∷ []) j void) (sym s) ∙ get_or-append-add rows (x ∷ []) 0 void in
          let r : length rows ≡ i = omega arith in
          subst (λ (y : Row). At y i) (sym u) (subst (λ (j : ℕ). At x j) r b)

  pub index-put : (n : ℕ) → n < length rows → At x n → Indexed (set rows n x) values rest
  index-put n l b = record { rows = λ i p. go i p (eqb i n) refl; values = k.values }
    where
      go : (i : ℕ) → i < length (set rows n x) → (z : Bool) → eqb i n ≡ z → At (get_or (set rows n x) i void) i
      go i p true e =
          let q : i ≡ n = eqb-true _ _ e in
          subst (λ (j : ℕ). At (get_or (set rows n x) j void) j) (sym q) (subst (λ (y : Row). At y n) (sym (get_or-set_same rows n x void l)) b)
      go i p false e = subst (λ (y : Row). At y i) (sym (get_or-set_other rows n i x void (eqb-false _ _ e))) (k.rows i (omega (arith, length-set rows n x)))

-- ---- a value more, and a value with another row

module _ {rows : List Row} {values : List Value} {rest : List ℕ} (k : Indexed rows values rest) (x : Value) where
  abbrev after : List ℕ
  after = set rest (value_slot x.name) (length values + 1)

  pub index-value : length rest ≡ 2 * max_names → Indexed rows (values ++ x ∷ []) after
  index-value l = record {
    rows = λ i p. subst (λ (y : ℕ). Bounded (kind_of (get_or rows i void)) (row_name (get_or rows i void)) i y) (sym (get_or-set_other rest (value_slot x.name) (row_slot (row_name (get_or rows i void))) (length values + 1) 0 (λ q. omega arith))) (k.rows i p);
    values = λ i p. go i p (ltb i (length values)) refl;
  }
    where
      here : get_or after (value_slot x.name) 0 ≡ length values + 1
      here = get_or-set_same rest (value_slot x.name) (length values + 1) 0 (omega (arith, half-below x.name))

      old : (i m : ℕ) → i < length values → i < get_or rest (value_slot m) 0 → (z : Bool) → eqb (value_slot m) (value_slot x.name) ≡ z → i < get_or after (value_slot m) 0
      old i m p q true e = let s = ap (λ (j : ℕ). get_or after j 0) (eqb-true (value_slot m) (value_slot x.name) e) in omega (arith, here)
      old i m p q false e = let s = get_or-set_other rest (value_slot x.name) (value_slot m) (length values + 1) 0 (eqb-false (value_slot m) (value_slot x.name) e) in omega arith

      go : (i : ℕ) → i < length (values ++ x ∷ []) → (z : Bool) → ltb i (length values) ≡ z → i < get_or after (value_slot (get_or (values ++ x ∷ []) i no_value).name) 0
      go i p true e =
          let q : i < length values = ltb-true _ _ e in
          subst (λ (y : Value). i < get_or after (value_slot y.name) 0) (sym (get_or-append values (x ∷ []) no_value i q)) (old i (get_or values i no_value).name q (k.values i q) _ refl)
      go i p false e =
          let q : length values ≤ i = ltb-false _ _ e in
          let s : length values + 0 ≡ i = omega (arith, length-append values (x ∷ [])) in
          let u : get_or (values ++ x ∷ []) i no_value ≡ x = ap (λ (j : ℕ). get_or (values ++ x ∷ []) j no_value) (sym s) ∙ get_or-append-add values (x ∷ []) 0 no_value in
          subst (λ (y : Value). i < get_or after (value_slot y.name) 0) (sym u) (omega (arith, here))

  pub index_renamed : (n : ℕ) → n < length values → x.name ≡ (get_or values n no_value).name → Indexed rows (set values n x) rest
  index_renamed n l same = record { rows = k.rows; values = λ i p. go i p (eqb i n) refl }
    where
      go : (i : ℕ) → i < length (set values n x) → (z : Bool) → eqb i n ≡ z → i < get_or rest (value_slot (get_or (set values n x) i no_value).name) 0
      go i p true e =
          let q : i ≡ n = eqb-true _ _ e in
          let u : (get_or (set values n x) i no_value).name ≡ (get_or values i no_value).name = ap (λ (j : ℕ). (get_or (set values n x) j no_value).name) q ∙ (ap (λ (y : Value). y.name) (get_or-set_same values n x no_value l) ∙ (same ∙ ap (λ (j : ℕ). (get_or values j no_value).name) (sym q))) in
          subst (λ (m : ℕ). i < get_or rest (value_slot m) 0) (sym u) (k.values i (omega (arith, length-set values n x)))
      go i p false e = subst (λ (y : Value). i < get_or rest (value_slot y.name) 0) (sym (get_or-set_other values n i x no_value (eqb-false _ _ e))) (k.values i (omega (arith, length-set values n x)))

-- ---- a search begins where the index says

module _ (kind name : ℕ) (w : List ℕ) where
  -- the bound that the index holds for them
  abbrev held : ℕ
  held = bound_for kind (get_or w (names_at + row_slot name) 0)

  -- a search for a name begins by the bound at its slot
  pub first_by : (at : ℕ) {r : Option ℕ} → at ≡ names_at + row_slot name → (name ≡ no_name → ⊥) → r ≡ from_bound (bound_for kind (get_or w at 0)) → r ≡ first_named kind name w
  unfolding first_named
  first_by at e p q = q ∙ (ap (λ (i : ℕ). from_bound (bound_for kind (get_or w i 0))) e ∙ sym (nay _ _ _ (ne_eqb name no_name p)))

  -- a row of that kind and name is bounded by it
  there : (t : Table) (h : InWords t w) → Indexed t.rows t.values h.rest → (i : ℕ) → i < length t.rows → kind_of (get_or t.rows i void) ≡ kind → row_name (get_or t.rows i void) ≡ name
      → Bounded kind name i (get_or w (names_at + row_slot name) 0)
  there t h k i q o s =
      let g = rest-get h (row_slot name) (names_at + row_slot name) refl in
      subst (λ (z : ℕ). Bounded kind name i z) (sym g) (subst (λ (z : ℕ). Bounded kind z i (get_or h.rest (row_slot z) 0)) s (subst (λ (z : ℕ). Bounded z (row_name (get_or t.rows i void)) i (get_or h.rest (row_slot (row_name (get_or t.rows i void))) 0)) o (k.rows i q)))

  before-by : (r : StdOption ℕ) (a b : Bool) → eqb name no_name ≡ a → eqb held 0 ≡ b → option r ≡ elim a [ true ↦ some 0 | false ↦ elim b [ true ↦ none | false ↦ some (held - 1) ] ] → NoneBefore kind name w r
  before-by (Some n) true b x y e = let z : n ≡ 0 = cc in record { of = λ t h k i q l o s. omega arith }
  before-by None true b x y e = let z : ◌≡◌ {A = ℕ} 0 1 = cc in absurd (omega arith)
  before-by (Some n) false true x y e = let z : ◌≡◌ {A = ℕ} 0 1 = cc in absurd (omega arith)
  before-by None false true x y e = record { of = λ t h k i q l o s. omega (arith, eqb-false name 0 x, eqb-true held 0 y, (there t h k i q o s).some (omega (arith, eqb-false name 0 x))) }
  before-by (Some n) false false x y e =
      let z : n ≡ held - 1 = cc in
      record { of = λ t h k i q l o s. omega (arith, eqb-false name 0 x, eqb-false held 0 y, (there t h k i q o s).first (omega (arith, eqb-false name 0 x))) }
  before-by None false false x y e = let z : ◌≡◌ {A = ℕ} 0 1 = cc in absurd (omega arith)

  -- no row before where a search begins has both
  pub none_before : {r : StdOption ℕ} → option r ≡ first_named kind name w → NoneBefore kind name w r
  unfolding first_named
  none_before {r} e = before-by r (eqb name no_name) (eqb held 0) refl refl e

-- a bound less one, if it is one
pub less_one : (r : StdOption ℕ) (b : ℕ) → SomeIff r (1 ≤ b) (b - 1) → option r ≡ from_bound b
less_one None b p = sym (yes (eqb b 0) _ _ (eq-eqb b 0 (omega arith)))
less_one (Some x) b p = ap some p.1 ∙ sym (nay (eqb b 0) _ _ (ne_eqb b 0 (λ e. omega (arith, p.0))))
