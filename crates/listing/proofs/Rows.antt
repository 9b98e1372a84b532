-- What stands under a row, by its kind, and rows one after the other. Assumes nothing.
use Rattle.std.proofs.Common.{◌≡◌, refl, sym, ap, ◌∙◌, [], ◌++◌, Bool, true, false, ℕ, ◌+◌, ◌<◌, ◌≤◌, eqb, ltb, length, drop, add-one, arith}
use borrow.Author.Tests.{ltb-true, ltb-false}
use lib.ListN.{drop_of_length-le}
use Rattle.definition.specs.Text.{Bytes}
use Rattle.definition.specs.Model.{Model}
use Rattle.definition.specs.RowKind.{struct_kind, enum_kind, function_kind}
use Rattle.definition.specs.Row.{Row, Span, void, int, float, bool, pointer, array, composite, enumeration, function, typedef, qualified, kind_of, span_of}
use Rattle.definition.specs.Table.{Table, row_at}
use Rattle.definition.specs.Types.{members_of, values_of, parameters_of}
use Rattle.definition.specs.Lent.{flat}
use Rattle.definition.specs.Listing.{member_line, value_line, param_line, type_line, sub_lines, type_lines, decl_line}
use Rattle.table.specs.Held.{declaration_at, no_declaration}
use Rattle.lemmas.proofs.Branch.{lt_yes, lt_no, eq_yes, eq_no}
use Rattle.lemmas.proofs.Lists.{drop-next}

module _ (text : Bytes) (t : Table) (n : ℕ) where
  abbrev by_kind : ℕ → Span → Bytes
  by_kind kind e =
      elim (ltb kind struct_kind) [
        | true ↦ []
        | false ↦ elim (ltb kind enum_kind) [
          | true ↦ flat (member_line text) (members_of t n e)
          | false ↦ elim (eqb kind enum_kind) [
            | true ↦ flat (value_line text) (values_of t n e)
            | false ↦ elim (eqb kind function_kind) [ true ↦ flat (param_line text) (parameters_of t n e) | false ↦ [] ]
          ]
        ]
      ]

  under : (x : Row) → sub_lines text t n x ≡ by_kind (kind_of x) (span_of x)
  unfolding sub_lines kind_of span_of
  under void = refl
  under (int s g) = refl
  under (float s) = refl
  under bool = refl
  under (pointer r) = refl
  under (array r b) = refl
  under (composite true w s y) = refl
  under (composite false w s y) = refl
  under (enumeration w s y) = refl
  under (function r v y) = refl
  under (typedef w r) = refl
  under (qualified r q) = refl

  module _ (x : Row) {k : ℕ} (e : k ≡ kind_of x) where
    same_kind : sub_lines text t n x ≡ by_kind k (span_of x)
    same_kind = under x ∙ ap (λ m. by_kind m (span_of x)) (sym e)

    pub members-under : struct_kind ≤ k → k < enum_kind → sub_lines text t n x ≡ flat (member_line text) (members_of t n (span_of x))
    members-under p q = same_kind ∙ (lt_no k _ _ _ p ∙ lt_yes k _ _ _ q)

    pub values-under : k ≡ enum_kind → sub_lines text t n x ≡ flat (value_line text) (values_of t n (span_of x))
    values-under p = same_kind ∙ (lt_no k 6 _ _ (omega arith) ∙ (lt_no k 8 _ _ (omega arith) ∙ eq_yes k _ _ _ p))

    pub params-under : k ≡ function_kind → sub_lines text t n x ≡ flat (param_line text) (parameters_of t n (span_of x))
    params-under p = same_kind ∙ (lt_no k 6 _ _ (omega arith) ∙ (lt_no k 8 _ _ (omega arith) ∙ (eq_no k 8 _ _ (omega arith) ∙ eq_yes k _ _ _ p)))

    pub nothing-under : (k ≡ 6 → ⊥) → (k ≡ 7 → ⊥) → (k ≡ 8 → ⊥) → (k ≡ 9 → ⊥) → sub_lines text t n x ≡ []
    nothing-under a b c d = same_kind ∙ by (ltb k 6) refl
      where
        by : (z : Bool) → ltb k 6 ≡ z → by_kind k (span_of x) ≡ []
        by true h = lt_yes k 6 _ _ (ltb-true k 6 h)
        by false h = let l = ltb-false k 6 h in lt_no k 6 _ _ l ∙ (lt_no k 8 _ _ (omega arith) ∙ (eq_no k 8 _ _ c ∙ eq_no k 9 _ _ d))

module _ (text : Bytes) (m : Model) (t : Table) (i : ℕ) where
  pub next_row : i < length t.rows
      → type_lines text m t i (drop i t.rows) ≡ type_line text m t i (row_at t i) ++ sub_lines text t i (row_at t i) ++ type_lines text m t (i + 1) (drop (i + 1) t.rows)
  unfolding type_lines
  next_row p = rw (drop-next t.rows i void p, add-one)

  pub no_more_rows : length t.rows ≤ i → type_lines text m t i (drop i t.rows) ≡ []
  unfolding type_lines
  no_more_rows p = rw (drop_of_length-le t.rows p)

module _ (text : Bytes) (t : Table) (i : ℕ) where
  pub next-declaration : i < length t.declarations
      → flat (decl_line text) (drop i t.declarations) ≡ decl_line text (declaration_at t i) ++ flat (decl_line text) (drop (i + 1) t.declarations)
  unfolding flat
  next-declaration p = ap (λ l. flat (decl_line text) l) (drop-next t.declarations i no_declaration p)

  pub no_more_declarations : length t.declarations ≤ i → flat (decl_line text) (drop i t.declarations) ≡ []
  unfolding flat
  no_more_declarations p = rw (drop_of_length-le t.declarations p)
