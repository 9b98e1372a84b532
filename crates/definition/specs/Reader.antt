-- The parser: its levels of nesting, declarations, and the two entries `translation_unit` and `declaration` (000) on tokens.
use Rattle.std.specs.Prelude.{Bool, true, false, ◌&&◌, ◌||◌, ℕ, zero, suc, ◌-◌, eqb, leb, ℤ, pos, length}
use Rattle.std.proofs.Math.Option.{none, some}
use Rattle.std.proofs.Math.IntN.{suc_ℤ, pred_ℤ}
use Rattle.std.specs.Int.Signed.{le_z}
use Rattle.definition.specs.Answer.{Answer, got, refused, ◌>>=◌}
use Rattle.definition.specs.Refusal.{too_deep, missing_mark, missing_name, typedef_changed, not_one_declaration}
use Rattle.definition.specs.Limit.{max_depth}
use Rattle.definition.specs.Kind.{end, open_paren, close_paren, open_bracket, close_bracket, open_brace, close_brace, comma, semicolon, equals}
use Rattle.definition.specs.Name.{no_name}
use Rattle.definition.specs.Token.{Tokens, Lexed, kind_at, here, left}
use Rattle.definition.specs.Constant.{constant}
use Rattle.definition.specs.Model.{Model}
use Rattle.definition.specs.Row.{typedef, target_of}
use Rattle.definition.specs.Table.{Storage, storage_number, typedefStorage, Table, new_table, State, Reads, row_at, skip, moved_to, push_row, push_declaration}
use Rattle.definition.specs.Types.{typedef_row}
use Rattle.definition.specs.Grammar.{Levels, stands}
use Rattle.definition.specs.Specifiers.{specifiers, base_type}
use Rattle.definition.specs.Declarator.{apply, declarator₁, direct₁}
use Rattle.definition.specs.Composite.{composite₁}
use Rattle.definition.specs.Enumeration.{value_named, enumeration₁}

unfoldable pub constant_here : Tokens → Reads ℤ
constant_here ts s = do
  r ← constant ts (λ w. value_named w s.table.values) s.at
  got (r.0, moved_to s r.1)

-- The readers with a number of levels left: with none, "depth above 64".
unfoldable pub levels : Tokens → Model → ℕ → Levels
levels ts m zero = record {
  composite = λ union s. refused too_deep s.at;
  enumeration = λ s. refused too_deep s.at;
  declarator = λ used s. refused too_deep s.at;
  direct = λ used s. refused too_deep s.at;
  constant = λ s. refused too_deep s.at;
}
levels ts m (suc room) = let next = levels ts m room in record {
  composite = composite₁ ts m next;
  enumeration = enumeration₁ ts m next;
  declarator = declarator₁ ts m next;
  direct = direct₁ ts m next;
  constant = constant_here ts;
}

-- ---- declarations

-- what a mark adds to the depth of an initialiser
unfoldable pub nested : ℕ → ℤ → ℤ
nested k depth =
    elim (eqb k open_brace || (eqb k open_paren || eqb k open_bracket)) [
      | true ↦ suc_ℤ depth
      | false ↦
          elim (eqb k close_brace || (eqb k close_paren || eqb k close_bracket)) [ true ↦ pred_ℤ depth | false ↦ depth ]
    ]

-- an initialiser is skipped: to a comma or semicolon outside its braces, or to the end
unfoldable pub skip_initialiser : Tokens → ℕ → ℤ → State → State
skip_initialiser ts zero depth s = s
skip_initialiser ts (suc f) depth s =
    elim (stands ts end s || ((stands ts comma s || stands ts semicolon s) && le_z depth (pos 0))) [
      | true ↦ s
      | false ↦ skip_initialiser ts f (nested (kind_at ts s.at) depth) (skip s)
    ]

unfoldable pub initialiser : Tokens → State → State
initialiser ts s = elim (stands ts equals s) [ true ↦ skip_initialiser ts (suc (left ts s.at)) (pos 0) (skip s) | false ↦ s ]

-- a typedef's row; "typedef name given another type" is refused at the declarator's place
unfoldable pub define_typedef : ℕ → ℕ → ℕ → Reads ℕ
define_typedef w b at s = elim (typedef_row s.table w) [
  | some n ↦ elim (eqb (target_of (row_at s.table n)) b) [ true ↦ got (n, s) | false ↦ refused typedef_changed at ]
  | none ↦ push_row (typedef w b) s
]

unfoldable pub is_typedef : Storage → Bool
is_typedef c = eqb (storage_number c) (storage_number typedefStorage)

-- the row that a declaration shows
unfoldable pub declared_row : Storage → ℕ → ℕ → ℕ → Reads ℕ
declared_row c w b at s = elim (is_typedef c) [ true ↦ define_typedef w b at s | false ↦ got (b, s) ]

unfoldable pub declare : Storage → ℕ → ℕ → State → Answer State
declare c b w s = do
  d ← push_declaration (record { storage = c; type = b; name = w }) s
  got d.1

module _ (ts : Tokens) (m : Model) where
  -- a declaration takes a level itself
  abbrev pub inner : Levels
  inner = levels ts m (max_depth - 1)

  -- one declarator of a declaration, with its initialiser
  unfoldable pub init_declarator : Storage → ℕ → State → Answer State
  init_declarator c b s = do
    d ← inner.declarator 0 s
    r ← apply d.0.steps b d.1
    elim (eqb d.0.name no_name) [
      | true ↦ refused missing_name s.at
      | false ↦ (do
        n ← declared_row c d.0.name r.0 s.at (initialiser ts r.1)
        declare c n.0 d.0.name n.1)
    ]

  -- each round reads one
  unfoldable pub init_declarators : ℕ → Storage → ℕ → State → Answer State
  init_declarators zero c b s = refused missing_mark s.at
  init_declarators (suc f) c b s = do
    s₁ ← init_declarator c b s
    elim (stands ts comma s₁) [ true ↦ init_declarators f c b (skip s₁) | false ↦ got s₁ ]

  -- a declaration up to its semicolon: a type alone, or declarators
  unfoldable pub declaration : State → Answer State
  declaration s = do
    p ← specifiers ts m inner s
    b ← base_type m p.0 s.at p.1
    elim (stands ts semicolon b.1 || stands ts end b.1) [
      | true ↦ elim (is_typedef p.0.storage) [
        | true ↦ refused missing_name s.at
        | false ↦ declare p.0.storage b.0 no_name b.1
      ]
      | false ↦ init_declarators (suc (left ts s.at)) p.0.storage b.0 b.1
    ]

  -- "A missing `;` between declarations is 10."
  unfoldable pub separated : State → Answer State
  separated s = elim (stands ts semicolon s) [
    | true ↦ got (skip s)
    | false ↦
        elim (stands ts end s) [ true ↦ got s | false ↦ refused missing_mark s.at ]
  ]

  -- declarations to the end; each round reads a semicolon or a declaration
  unfoldable pub declarations_from : ℕ → State → Answer State
  declarations_from zero s = got s
  declarations_from (suc f) s =
      elim (stands ts end s) [
        | true ↦ got s
        | false ↦
            elim (stands ts semicolon s) [
              | true ↦ declarations_from f (skip s)
              | false ↦ (do
                s₁ ← declaration s
                s₂ ← separated s₁
                declarations_from f s₂)
            ]
      ]

  abbrev pub start : State
  start = record { at = 0; table = new_table }

  -- a semicolon that may stand here
  unfoldable pub optional_semicolon : State → State
  optional_semicolon s = elim (stands ts semicolon s) [ true ↦ skip s | false ↦ s ]

  -- "`declaration` finds .. a token after its declaration"
  unfoldable pub nothing_more : State → Answer State
  nothing_more s = elim (stands ts end s) [ true ↦ got s | false ↦ refused not_one_declaration s.at ]

  -- all declarations, or one alone, its semicolon optional
  unfoldable pub all_declarations : Answer State
  all_declarations = declarations_from (suc (left ts 0)) start

  unfoldable pub lone_declaration : Answer State
  lone_declaration = do
    s ← declaration start
    nothing_more (optional_semicolon s)

-- the places of refusals as offsets in the text
unfoldable pub in_text : {A : Type 0} → Lexed → Answer A → Answer A
in_text x (got a) = got a
in_text x (refused n i) = refused n (here x i)

-- `translation_unit`: a whole header
unfoldable pub translation_unit : Lexed → Model → Answer Table
translation_unit x m = do
  s ← in_text x (all_declarations x.tokens m)
  got s.table

-- `declaration`: one declaration; "more than one name" is refused at offset 0
unfoldable pub one_declaration : Lexed → Model → Answer Table
one_declaration x m = do
  s ← in_text x (lone_declaration x.tokens m)
  elim (leb (length s.table.declarations) 1) [ true ↦ got s.table | false ↦ refused not_one_declaration 0 ]
