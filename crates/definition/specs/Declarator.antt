-- Declarators (C11 6.7.6): `parse_declarator`, `direct_declarator`, `array_bound`, `parameters`, `adjust_parameter` and `apply` (000).
use Rattle.std.specs.Prelude.{List, [], ◌∷◌, Bool, true, false, ◌&&◌, ◌||◌, not, ℕ, zero, suc, ◌+◌, eqb, leb, ℤ, pos, negsuc, length}
use Rattle.std.proofs.Math.Option.{Option, none, some}
use Rattle.definition.specs.Answer.{Answer, got, refused, ◌>>=◌}
use Rattle.definition.specs.Refusal.{impossible_type, bad_bound, limit_passed}
use Rattle.definition.specs.Limit.{max_steps}
use Rattle.definition.specs.Kind.{is_name, atomic_word, static_word, star, open_paren, close_paren, open_bracket, close_bracket, comma, ellipsis}
use Rattle.definition.specs.Name.{no_name}
use Rattle.definition.specs.Token.{Tokens, kind_at, number_at, left}
use Rattle.definition.specs.Model.{Model}
use Rattle.definition.specs.RowKind.{void_kind, array_kind, function_kind}
use Rattle.definition.specs.Row.{Row, pointer, array, function, Qualifiers, unqualified, Span, target_of, is_some}
use Rattle.definition.specs.Table.{Parameter, Table, State, Reads, row_at, skip, with_table, with_parameters, mark_of, push_row, push_parameter}
use Rattle.definition.specs.Types.{typedef_row, equal_row, add, qualify, resolve, resolved_kind, changed_from}
use Rattle.definition.specs.Specifier.{is_qualifier_word, with_qualifier, builtin}
use Rattle.definition.specs.Grammar.{DeclaratorStep, pointer_step, array_step, function_step, Declarator, named, unnamed, with_step, Levels, stands, needed}
use Rattle.definition.specs.Specifiers.{specifiers, base_type}

-- ---- what a base type becomes

-- the parameters of a list, from number `first` on, get their row
unfoldable pub own_parameters : ℕ → ℕ → List Parameter → List Parameter
own_parameters first n ps = changed_from (λ e. eqb e.row (mark_of first)) (λ e. record { row = n; type = e.type; name = e.name }) first ps

abbrev pub parameters_owned : ℕ → ℕ → State → State
parameters_owned first n s = with_table s (with_parameters s.table (own_parameters first n s.table.parameters))

-- a function type: an equal row, and then its list carries row 0, or a new one
unfoldable pub add_function : Option ℕ → Bool → Span → Reads ℕ
add_function returns varargs e s = elim (equal_row s.table (function returns varargs e) 0 s.table.rows) [
  | some n ↦ got (n, parameters_owned e.first 0 s)
  | none ↦ (do
    r ← push_row (function returns varargs e) s
    got (r.0, parameters_owned e.first r.0 r.1))
]

-- a function of void returns nothing
abbrev pub returned : Table → ℕ → Option ℕ
returned t b = elim (eqb (resolve t b) 0) [ true ↦ none | false ↦ some b ]

-- Each step is taken in turn. "array of void, function returning array or function" is refused at the token not yet read.
unfoldable pub apply : List DeclaratorStep → ℕ → Reads ℕ
apply [] b s = got (b, s)
apply (pointer_step q ∷ xs) b s = do
  p ← add (pointer b) s
  r ← qualify q p.0 p.1
  apply xs r.0 r.1
apply (array_step n ∷ xs) b s = elim (eqb (resolved_kind s.table b) void_kind) [
  | true ↦ refused impossible_type s.at
  | false ↦ (do
    r ← add (array b n) s
    apply xs r.0 r.1)
]
apply (function_step v e ∷ xs) b s =
    elim (eqb (resolved_kind s.table b) array_kind || eqb (resolved_kind s.table b) function_kind) [
      | true ↦ refused impossible_type s.at
      | false ↦ (do
        r ← add_function (returned s.table b) v e s
        apply xs r.0 r.1)
    ]

-- "A parameter declared as an array or a function is a pointer" (C11 6.7.6.3); a void one is refused
unfoldable pub adjusted : ℕ → ℕ → Reads ℕ
adjusted at b s =
    elim (eqb (resolved_kind s.table b) array_kind) [
      | true ↦ add (pointer (target_of (row_at s.table (resolve s.table b)))) s
      | false ↦
          elim (eqb (resolved_kind s.table b) function_kind) [
            | true ↦ add (pointer b) s
            | false ↦
                elim (eqb (resolved_kind s.table b) void_kind) [ true ↦ refused impossible_type at | false ↦ got (b, s) ]
          ]
    ]

-- ---- reading a declarator

-- qualifiers after a star or in brackets; `_Atomic` is passed over
unfoldable pub qualifiers_from : Tokens → ℕ → Qualifiers → State → Qualifiers × State
qualifiers_from ts zero q s = (q, s)
qualifiers_from ts (suc f) q s =
    elim (is_qualifier_word (kind_at ts s.at)) [
      | true ↦ qualifiers_from ts f (with_qualifier (kind_at ts s.at) q) (skip s)
      | false ↦
          elim (stands ts atomic_word s) [ true ↦ qualifiers_from ts f q (skip s) | false ↦ (q, s) ]
    ]

abbrev pub qualifiers_here : Tokens → State → Qualifiers × State
qualifiers_here ts s = qualifiers_from ts (suc (left ts s.at)) unqualified s

-- room for one more step after n: 27 "at the next token not yet read"
unfoldable pub one_more_step : ℕ → State → Answer State
one_more_step n s = elim (leb max_steps n) [ true ↦ refused limit_passed s.at | false ↦ got s ]

-- the stars, newest first, after `used` steps
unfoldable pub stars_from : Tokens → ℕ → ℕ → List Qualifiers → Reads (List Qualifiers)
stars_from ts zero used qs s = got (qs, s)
stars_from ts (suc f) used qs s = elim (stands ts star s) [
  | false ↦ got (qs, s)
  | true ↦ (do
    s₁ ← one_more_step (used + length qs) (skip s)
    stars_from ts f used ((qualifiers_here ts s₁).0 ∷ qs) (qualifiers_here ts s₁).1)
]

-- the steps of stars, the newest of which comes next to those already there
unfoldable pub starred : List Qualifiers → List DeclaratorStep → List DeclaratorStep
starred [] xs = xs
starred (q ∷ qs) xs = starred qs (pointer_step q ∷ xs)

-- A parenthesis opens a declarator, and not a parameter list, before `*`, `(` or a word that names no type.
unfoldable pub opens_declarator : Tokens → Model → State → Bool
opens_declarator ts m s = stands ts open_paren s && (stands ts star (skip s) || (stands ts open_paren (skip s)
    || (is_name (kind_at ts (s.at + 1)) && (not (is_some (typedef_row s.table (number_at ts (s.at + 1)))) && not (is_builtin (builtin m (kind_at ts (s.at + 1))))))))
  where
    is_builtin : Option Row → Bool
    is_builtin none = false
    is_builtin (some r) = true

-- "bound negative or `*`"
abbrev pub bound_of : ℤ → ℕ → Answer ℕ
bound_of (pos n) at = got n
bound_of (negsuc n) at = refused bad_bound at

-- `static` and qualifiers in brackets say nothing of the layout
unfoldable pub bound_words : Tokens → ℕ → State → State
bound_words ts zero s = s
bound_words ts (suc f) s =
    elim (stands ts static_word s || (is_qualifier_word (kind_at ts s.at) || stands ts atomic_word s)) [ true ↦ bound_words ts f (skip s) | false ↦ s ]

-- `( void )` alone is an empty list, and no parameter
unfoldable pub is_void_list : Tokens → ℕ → ℕ → ℕ → State → Bool
is_void_list ts n name type s = eqb n 0 && (eqb name no_name && (eqb type 0 && stands ts close_paren s))

module _ (ts : Tokens) (m : Model) (next : Levels) where
  -- the bound after `[`, none for `[]`
  unfoldable pub constant_bound : State → Answer (Option ℕ × State)
  constant_bound s = do
    v ← next.constant s
    s' ← needed ts close_bracket v.1
    n ← bound_of v.0 s.at
    got (some n, s')

  unfoldable pub array_bound : State → Answer (Option ℕ × State)
  array_bound s₀ = let s = bound_words ts (suc (left ts s₀.at)) s₀ in
      elim (stands ts close_bracket s) [
        | true ↦ got (none, skip s)
        | false ↦
            elim (stands ts star s) [
              | true ↦ (do
                s' ← needed ts close_bracket (skip s)
                refused bad_bound s.at)
              | false ↦ constant_bound s
            ]
      ]

  -- one parameter: its type, its name
  unfoldable pub parameter : State → Answer (ℕ × ℕ × State)
  parameter s = do
    p ← specifiers ts m next s
    b ← base_type m p.0 s.at p.1
    d ← next.declarator 0 b.1
    r ← apply d.0.steps b.0 d.1
    got (r.0, d.0.name, r.1)

  unfoldable pub parameters_end : Bool → ℕ → ℕ → Reads DeclaratorStep
  parameters_end varargs first n s = do
    s' ← needed ts close_paren s
    got (function_step varargs (record { first = first; count = n }), s')

  -- parameters of a list whose first entry is `first`, n of them read; each round reads one
  unfoldable pub parameters_from : ℕ → ℕ → ℕ → Reads DeclaratorStep
  parameters_from zero first n s = parameters_end false first n s
  parameters_from (suc f) first n s = elim (stands ts ellipsis s) [
    | true ↦ parameters_end true first n (skip s)
    | false ↦ (do
      p ← parameter s
      elim (is_void_list ts n p.1 p.0 p.2) [
        | true ↦ parameters_end false first n p.2
        | false ↦ (do
          a ← adjusted s.at p.0 p.2
          e ← push_parameter (record { row = mark_of first; type = a.0; name = p.1 }) a.1
          elim (stands ts comma e.1) [
            | true ↦ parameters_from f first (suc n) (skip e.1)
            | false ↦ parameters_end false first (suc n) e.1
          ])
      ])
  ]

  -- the list after `(`
  unfoldable pub parameters : Reads DeclaratorStep
  parameters s = elim (stands ts close_paren s) [
    | true ↦ got (function_step false (record { first = length s.table.parameters; count = 0 }), skip s)
    | false ↦ parameters_from (suc (left ts s.at)) (length s.table.parameters) 0 s
  ]

  -- bounds and parameter lists after a name: the last one read is taken first
  unfoldable pub suffixes_from : ℕ → ℕ → Declarator → Reads Declarator
  suffixes_from zero used d s = got (d, s)
  suffixes_from (suc f) used d s =
      elim (stands ts open_bracket s) [
        | true ↦ (do
          s₁ ← one_more_step (used + length d.steps) (skip s)
          b ← array_bound s₁
          suffixes_from f used (with_step d (array_step b.0)) b.1)
        | false ↦
            elim (stands ts open_paren s) [
              | true ↦ (do
                s₁ ← one_more_step (used + length d.steps) (skip s)
                p ← parameters s₁
                suffixes_from f used (with_step d p.0) p.1)
              | false ↦
                  got (d, s)
            ]
      ]

  unfoldable pub suffixes : ℕ → Declarator → Reads Declarator
  suffixes used d s = suffixes_from (suc (left ts s.at)) used d s

  -- a name, a declarator in parentheses, or nothing; then what follows it
  unfoldable pub direct₁ : ℕ → Reads Declarator
  direct₁ used s =
      elim (is_name (kind_at ts s.at)) [
        | true ↦ suffixes used (named (number_at ts s.at)) (skip s)
        | false ↦
            elim (opens_declarator ts m s) [
              | true ↦ (do
                d ← next.declarator used (skip s)
                s' ← needed ts close_paren d.1
                suffixes used d.0 s')
              | false ↦
                  suffixes used unnamed s
            ]
      ]

  unfoldable pub declarator₁ : ℕ → Reads Declarator
  declarator₁ used s = do
    r ← stars_from ts (suc (left ts s.at)) used [] s
    d ← next.direct (used + length r.0) r.1
    got (record { steps = starred r.0 d.0.steps; name = d.0.name }, d.1)
