-- The listing of a table that keeps its limits is no longer than its lines and its names. Assumes nothing.
use mathlib.Core.Path.{◌≡◌, refl}
use mathlib.Core.List.{List, [], ◌∷◌, ◌++◌}
use mathlib.Core.Option.{none}
use Prim.Native.Nat.{ℕ, zero, suc, ◌+◌, ◌≤◌, ◌<◌}
use native.Mathlib.Omega.{arith}
use lib.ListN.{length, get_or, length-append}
use Rattle.definition.specs.Text.{Bytes}
use Rattle.definition.specs.Limit.{max_rows}
use Rattle.definition.specs.Model.{Model}
use Rattle.definition.specs.Row.{Row, void, int, float, bool, pointer, array, composite, enumeration, function, typedef, qualified, target_of}
use Rattle.definition.specs.Table.{Member, Value, Parameter, Declaration, noStorage, Table}
use Rattle.definition.specs.Lent.{flat}
use Rattle.definition.specs.Listing.{type_line, sub_lines, type_lines, member_line, value_line, param_line, decl_line, listing}
use Rattle.definition_laws.specs.Inside.{Inside, WithinLimits}
use Rattle.definition_laws.proofs.Each.{Each, cons, each_weaker}
use Rattle.listing_length.specs.Weight.{sum_of, row_bytes, member_bytes, value_bytes, parameter_bytes, declaration_bytes, weight, row_length, member_length, value_length, parameter_length, declaration_length, lines_only}
use Rattle.listing_length.proofs.Sums.{sum-plus, share, since, parts, since-all, shared, flat-within, each_of, both}
use Rattle.listing_length.proofs.Fits.{BoundFits, MemberFits, Fits}
use Rattle.listing_length.proofs.Lines.{type-line, member-line, value_line_lem, param_line_lem, decl_line_lem}

each_head : {E : Type 0} {P : ℕ → E → Type 0} {n : ℕ} {e : E} {es : List E} → Each P n (e ∷ es) → P n e
each_head (cons h hs) = h

each_tail : {E : Type 0} {P : ℕ → E → Type 0} {n : ℕ} {e : E} {es : List E} → Each P n (e ∷ es) → Each P (suc n) es
each_tail (cons h hs) = hs

-- of each entry its line, at most
abbrev row_most : Row → ℕ
row_most r = row_length + row_bytes r

abbrev member_most : Member → ℕ
member_most e = member_length + member_bytes e

abbrev value_most : Value → ℕ
value_most e = value_length + value_bytes e

abbrev parameter_most : Parameter → ℕ
parameter_most e = parameter_length + parameter_bytes e

abbrev declaration_most : Declaration → ℕ
declaration_most d = declaration_length + declaration_bytes d

abbrev member_row : Member → ℕ
member_row e = e.row

abbrev value_row : Value → ℕ
value_row e = e.row

abbrev parameter_row : Parameter → ℕ
parameter_row e = e.row

module _ (text : Bytes) (t : Table) (in' : Inside t) (h : Fits t) where
  limits : WithinLimits t
  limits = in'.limits

  members : Each (λ i e. MemberFits e × (e.type < max_rows)) 0 t.members
  members = both h.members (each_of {P = λ e. e.type < max_rows} (record { row = 0; type = 0; name = 0; width = none; offset = 0; first_bit = 0 }) 0 t.members
      (λ i l. let a = in'.member_type i l in let b = limits.rows in omega arith))

  parameters : Each (λ i e. e.type < max_rows) 0 t.parameters
  parameters = each_of {P = λ e. e.type < max_rows} (record { row = 0; type = 0; name = 0 }) 0 t.parameters (λ i l. let a = in'.parameter_type i l in let b = limits.rows in omega arith)

  declarations : Each (λ i d. d.type < max_rows) 0 t.declarations
  declarations = each_of {P = λ d. d.type < max_rows} (record { storage = noStorage; type = 0; name = 0 }) 0 t.declarations (λ i l. let a = in'.declaration_type i l in let b = limits.rows in omega arith)

  target : (i : ℕ) → i < length t.rows → target_of (get_or t.rows i void) < max_rows
  unfolding target_of
  target zero l = rw in'.void_first (omega arith)
  target (suc i) l = let a = in'.lower (suc i) (omega arith) l in let b = limits.rows in omega arith

  rows : Each (λ i r. BoundFits r × (target_of r < max_rows)) 0 t.rows
  rows = both h.rows (each_of void 0 t.rows target)

  -- what lines are left from row n on
  rest : ℕ → ℕ
  rest n = since member_row member_most n t.members + since value_row value_most n t.values + since parameter_row parameter_most n t.parameters

  -- the entries of a row take their share
  sub_lines_lem : (n : ℕ) (r : Row) → n < max_rows → length (sub_lines text t n r) + rest (suc n) ≤ rest n
  unfolding sub_lines rest
  sub_lines_lem n r l = go r
    where
      a : share member_row member_most n t.members + since member_row member_most (suc n) t.members ≤ since member_row member_most n t.members
      a = parts member_row member_most n t.members

      b : share value_row value_most n t.values + since value_row value_most (suc n) t.values ≤ since value_row value_most n t.values
      b = parts value_row value_most n t.values

      c : share parameter_row parameter_most n t.parameters + since parameter_row parameter_most (suc n) t.parameters ≤ since parameter_row parameter_most n t.parameters
      c = parts parameter_row parameter_most n t.parameters

      go : (r : Row) → length (sub_lines text t n r) + rest (suc n) ≤ rest n
      go void = omega (arith, a, b, c)
      go (int s g) = omega (arith, a, b, c)
      go (float s) = omega (arith, a, b, c)
      go bool = omega (arith, a, b, c)
      go (pointer r) = omega (arith, a, b, c)
      go (array r b') = omega (arith, a, b, c)
      go (composite u w s e) = omega (
        arith,
        a,
        b,
        c,
        shared member_row member_most (member_line text) n e.first e.count t.members
            (each_weaker members (λ i x k q. member-line text x k.0 k.1 (omega arith))),
      )
      go (enumeration w s e) = omega (
        arith,
        a,
        b,
        c,
        shared value_row value_most (value_line text) n e.first e.count t.values
            (each_weaker h.values (λ i x k q. value_line_lem text x k)),
      )
      go (function r v e) = omega (
        arith,
        a,
        b,
        c,
        shared parameter_row parameter_most (param_line text) n e.first e.count t.parameters
            (each_weaker parameters (λ i x k q. param_line_lem text x k)),
      )
      go (typedef w r) = omega (arith, a, b, c)
      go (qualified r q) = omega (arith, a, b, c)

  module _ (m : Model) (small : m.max_align ≤ 16) where
    none_left : (n : ℕ) → length (type_lines text m t n []) ≡ 0
    unfolding type_lines
    none_left n = refl

    one_more : (n : ℕ) (r : Row) (rs : List Row)
        → length (type_lines text m t n (r ∷ rs)) ≡ length (type_line text m t n r) + (length (sub_lines text t n r) + length (type_lines text m t (suc n) rs))
    unfolding type_lines
    one_more n r rs = omega (
      arith,
      length-append (type_line text m t n r ++ sub_lines text t n r) (type_lines text m t (suc n) rs),
      length-append (type_line text m t n r) (sub_lines text t n r),
    )

    type-lines : (n : ℕ) (rs : List Row) → n + length rs ≤ max_rows → Each (λ i r. BoundFits r × (target_of r < max_rows)) n rs
        → length (type_lines text m t n rs) ≤ sum_of row_most rs + rest n
    unfolding sum_of
    type-lines n [] p k = omega (arith, none_left n)
    type-lines n (r ∷ rs) p k = omega (
      arith,
      one_more n r rs,
      type-line text m small t n r (omega arith) (each_head k).1 (each_head k).0,
      sub_lines_lem n r (omega arith),
      type-lines (suc n) rs (omega arith) (each_tail k),
    )

    -- The fixed parts of all lines, and the names.
    pub listing-within : length (listing text m t) ≤ lines_only + weight t
    unfolding listing weight rest
    listing-within = let b = limits in let c = b.rows in let d = b.members in let e = b.values in let f = b.parameters in let g = b.declarations in omega (
      arith,
      type-lines 0 t.rows (omega arith) rows,
      flat-within (decl_line text) declaration_most t.declarations (each_weaker declarations (λ i x k. decl_line_lem text x k)),
      length-append (type_lines text m t 0 t.rows) (flat (decl_line text) t.declarations),
      since-all member_row member_most 0 t.members,
      since-all value_row value_most 0 t.values,
      since-all parameter_row parameter_most 0 t.parameters,
      sum-plus row_bytes row_length t.rows,
      sum-plus member_bytes member_length t.members,
      sum-plus value_bytes value_length t.values,
      sum-plus parameter_bytes parameter_length t.parameters,
      sum-plus declaration_bytes declaration_length t.declarations,
    )
