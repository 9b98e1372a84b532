-- The conditions of demand 3: no tag has two bodies, no enum tag is used before its body, no union bit-field is wider than its type.
use Rattle.std.specs.Prelude.{◌≡◌, List, [], ◌∷◌, Bool, true, false, not, ◌&&◌, ◌||◌, ℕ, zero, suc, ◌+◌, ◌-◌, T, eqb, length}
use Rattle.std.proofs.Math.Option.{Option, none, some}
use Rattle.definition.specs.Kind.{is_name, enum_word, open_brace, close_brace}
use Rattle.definition.specs.Answer.{got}
use Rattle.definition.specs.Text.{Bytes}
use Rattle.definition.specs.Token.{Tokens, Lexed, kind_at, number_at}
use Rattle.definition.specs.Cut.{tokenize}
use Rattle.definition.specs.Specifiers.{is_tag_word}
use Rattle.definition.specs.Table.{Event, bodied, used, wide, Table}

-- ---- of a text: of all its tokens, those of skipped initialisers too

-- "a tag is the name alone": the name after `struct`, `union` or `enum` at index i
abbrev pub tag_at : Tokens → ℕ → ℕ
tag_at ts i = number_at ts (i + 1)

-- "and its bodies are all braces that follow it, replaced ones too": a tag with a body stands at index i
unfoldable pub opens_body : Tokens → ℕ → Bool
opens_body ts i = is_tag_word (kind_at ts i) && (is_name (kind_at ts (i + 1)) && eqb (kind_at ts (i + 2)) open_brace)

-- "`enum` and the tag stand without braces" at index i
unfoldable pub uses_enum : Tokens → ℕ → Bool
uses_enum ts i = eqb (kind_at ts i) enum_word && (is_name (kind_at ts (i + 1)) && not (eqb (kind_at ts (i + 2)) open_brace))

-- The braces that are open inside a body's own; none once the body's own is closed. A closing brace closes the innermost.
abbrev pub one_closed : ℕ → Option ℕ
one_closed zero = none
one_closed (suc d) = some d

-- and so one token on
abbrev pub opened_by : ℕ → Option ℕ → Option ℕ
opened_by k none = none
opened_by k (some d) = elim (eqb k open_brace) [ true ↦ some (suc d) | false ↦ elim (eqb k close_brace) [ true ↦ one_closed d | false ↦ some d ] ]

-- after n tokens of a body whose first token has index i
unfoldable pub opened_after : Tokens → ℕ → ℕ → Option ℕ
opened_after ts i zero = some 0
opened_after ts i (suc n) = opened_by (kind_at ts (i + n)) (opened_after ts i n)

abbrev pub is_closed : Option ℕ → Bool
is_closed none = true
is_closed (some d) = false

-- the body whose tag stands at index j, after its keyword, has been closed before index i
abbrev pub closed_before : Tokens → ℕ → ℕ → Bool
closed_before ts j i = is_closed (opened_after ts (j + 3) (i - (j + 3)))

-- "An enum tag is used before its body where `enum` and the tag stand without braces ahead of a body of that tag, or inside one": every use
-- stands after all bodies of its tag. And no tag has two bodies.
pub record Orderly (ts : Tokens) : Type 0 where
  pub one_body : (i j : ℕ) → T (opens_body ts i) → T (opens_body ts j) → tag_at ts i ≡ tag_at ts j → i ≡ j
  pub body_first : (i j : ℕ) → T (uses_enum ts i) → T (opens_body ts j) → tag_at ts i ≡ tag_at ts j → T (closed_before ts j i)

-- The same as tests.
unfoldable pub every_below : ℕ → (ℕ → Bool) → Bool
every_below zero test = true
every_below (suc n) test = test n && every_below n test

abbrev pub same_tag : Tokens → ℕ → ℕ → Bool
same_tag ts i j = eqb (tag_at ts i) (tag_at ts j)

-- how many tokens there are
abbrev pub how_many : Tokens → ℕ
how_many ts = length ts.kinds

-- no tag has two bodies
abbrev pub bodied_once : Tokens → Bool
bodied_once ts = every_below (how_many ts) (λ i. every_below i (λ j. not (opens_body ts i && (opens_body ts j && same_tag ts i j))))

-- every use of an enum tag stands after all bodies of the tag
abbrev pub used_after_bodies : Tokens → Bool
used_after_bodies ts =
    every_below (how_many ts) (λ i. every_below (how_many ts) (λ j. not (uses_enum ts i && (opens_body ts j && same_tag ts i j)) || closed_before ts j i))

unfoldable pub is_orderly : Tokens → Bool
is_orderly ts = bodied_once ts && used_after_bodies ts

-- "A union bit-field is held against 8 times its type's size at the moment the union's layout takes it": what the layout noted
unfoldable pub none_too_wide : List Event → Bool
none_too_wide [] = true
none_too_wide (bodied w ∷ l) = none_too_wide l
none_too_wide (used w ∷ l) = none_too_wide l
none_too_wide (wide ∷ l) = false

-- The conditions of demand 3, of a text and the table that it gives
pub record Meets (text : Bytes) (t : Table) : Type 0 where
  pub tags : (x : Lexed) → tokenize text ≡ got x → Orderly x.tokens
  pub fields : T (none_too_wide t.log)

-- ---- of what the reader did, which suffices

-- The log has the newest event first. A body is in it when it closes, so a use inside a body comes before it.
unfoldable pub has_body : ℕ → List Event → Bool
has_body w [] = false
has_body w (bodied v ∷ l) = eqb w v || has_body w l
has_body w (used v ∷ l) = has_body w l
has_body w (wide ∷ l) = has_body w l

unfoldable pub has_use : ℕ → List Event → Bool
has_use w [] = false
has_use w (bodied v ∷ l) = has_use w l
has_use w (used v ∷ l) = eqb w v || has_use w l
has_use w (wide ∷ l) = has_use w l

-- a tag has had a body, or has been used as an enum's
abbrev pub met : ℕ → List Event → Bool
met w l = has_body w l || has_use w l

-- a body's tag was not met before, and no field was too wide
unfoldable pub orderly : List Event → Bool
orderly [] = true
orderly (bodied w ∷ l) = not (met w l) && orderly l
orderly (used w ∷ l) = orderly l
orderly (wide ∷ l) = false
