-- What the tests of `opens_declarator` say; callers use the first. Assumes nothing.
use mathlib.Core.Logic.{◌⊎◌, inl, inr}
use mathlib.Core.Path.{◌≡◌, refl, sym, ap, ◌∙◌}
use mathlib.Core.Bool.{Bool, true, false, ◌&&◌, not, false≢true, or-true}
use mathlib.Core.Option as maybe
use Prim.Native.Nat.{ℕ, ◌+◌}
use lib.Dec.{eqb}
use borrow.Author.Tests.{eq-eqb, ne_eqb}
use Rattle.std.specs.Prelude.{Option, Some, None, is_some}
use Rattle.definition.specs.Kind.{is_name, star, open_paren}
use Rattle.definition.specs.Token.{Tokens, kind_at, number_at}
use Rattle.definition.specs.Model.{Model}
use Rattle.definition.specs.Row.{Row}
use Rattle.definition.specs.Table.{State}
use Rattle.definition.specs.Types.{typedef_row}
use Rattle.definition.specs.Specifier.{builtin}
use Rattle.definition.specs.Declarator.{opens_declarator}
use Rattle.encoding.specs.Kinds.{kind_number}
use Rattle.encoding.specs.declared.token_kinds.TokenKind.{TokenKind}
use Rattle.encoding.proofs.TokenKinds.{apart as kinds_apart}
use Rattle.lemmas.specs.Options.{option}
use Rattle.words.specs.declared.types.BaseRow.{BaseRow}
use Rattle.words.specs.Meaning.{known}

-- kinds that differ have numbers that differ
pub apart : (k j : TokenKind) → (k ≡ j → ⊥) → kind_number k ≡ kind_number j → ⊥
apart k j n = kinds_apart k j n

pub not_not : (b : Bool) → not (not b) ≡ b
not_not true = refl
not_not false = refl

module _ (ts : Tokens) (m : Model) (s : State) where
  -- where no parenthesis stands, none opens a declarator
  pub shut : eqb (kind_at ts s.at) open_paren ≡ false → opens_declarator ts m s ≡ false
  unfolding opens_declarator
  shut e = rw e

  abbrev next : ℕ
  next = kind_at ts (s.at + 1)

  module _ (o : kind_at ts s.at ≡ open_paren) where
    opened : eqb (kind_at ts s.at) open_paren ≡ true
    opened = eq-eqb _ _ o

    -- before a mark
    pub by_mark : (next ≡ star) ⊎ (next ≡ open_paren) → opens_declarator ts m s ≡ true
    unfolding opens_declarator
    by_mark (inl e) = rw (opened, eq-eqb next star e)
    by_mark (inr e) = rw (opened, eq-eqb next open_paren e, or-true)

    -- before what is no name
    pub by_other : (next ≡ star → ⊥) → (next ≡ open_paren → ⊥) → is_name next ≡ false → opens_declarator ts m s ≡ false
    unfolding opens_declarator
    by_other n p e = rw (opened, ne_eqb next star n, ne_eqb next open_paren p, e)

    no_mark : (k : ℕ) → is_name k ≡ false → is_name next ≡ true → eqb next k ≡ false
    no_mark k f e = ne_eqb next k (λ z. false≢true (sym f ∙ ap is_name (sym z) ∙ e))

    -- before a name
    name_is : (a : maybe.Option ℕ) (b : maybe.Option Row) → typedef_row s.table (number_at ts (s.at + 1)) ≡ a → builtin m next ≡ b → is_name next ≡ true
        → (x : Option ℕ) (y : Option BaseRow) → option x ≡ a → y ≡ known b → opens_declarator ts m s ≡ (not (is_some x) && not (is_some y))
    unfolding opens_declarator is_name known
    name_is (maybe.some n) b e f i (Some x) y p q = rw (opened, no_mark star refl i, no_mark open_paren refl i, i, e)
    name_is (maybe.some n) b e f i None y p q = cc
    name_is maybe.none b e f i (Some x) y p q = cc
    name_is maybe.none maybe.none e f i None y p q = rw (opened, no_mark star refl i, no_mark open_paren refl i, i, e, f, q)
    name_is maybe.none (maybe.some r) e f i None y p q = rw (opened, no_mark star refl i, no_mark open_paren refl i, i, e, f, q)

    pub by_name : (a b : Bool) (x : Option ℕ) {y : Option BaseRow} {k : ℕ} → is_name k ≡ true → next ≡ k → option x ≡ typedef_row s.table (number_at ts (s.at + 1)) → y ≡ known (builtin m k)
        → is_some x ≡ not a → is_some y ≡ not b → opens_declarator ts m s ≡ (a && b)
    by_name a b x {y} i e p q f g =
        name_is _ _ refl refl (ap is_name e ∙ i) x y p (q ∙ ap (λ z. known (builtin m z)) (sym e)) ∙ rw (f, g, not_not a, not_not b)
