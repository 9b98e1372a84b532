use mathlib.Core.Logic.{◌⊎◌, inl, inr}
use mathlib.Core.Path.{◌≡◌, refl, sym, ap, ◌∙◌}
use mathlib.Core.Bool.{◌&&◌, not, true≢false}
use Rattle.definition.specs.Kind.{is_name}
use Rattle.definition.specs.Types.{typedef_row}
use Rattle.encoding.specs.Kinds.{kind_number}
use Rattle.encoding.specs.declared.token_kinds.TokenKind.{TokenKind}
use Rattle.encoding.specs.declared.token_kinds.TokenKind.TheVariants.{Star, OpenParen}
use Rattle.encoding.proofs.TokenKinds.{is_kind! }
use Rattle.std.specs.Prelude.{is_some}
use Rattle.definition.specs.Specifier.{builtin}
use Rattle.words.specs.Meaning.{known}
use Rattle.table.specs.Held.{state}
use Rattle.model.specs.Meaning.{model}
use Rattle.naming.specs.Meaning.{tokens}
use Rattle.declarator_heads.proofs.Opens.{not_not, apart, by_mark, by_other, by_name}
use Rattle.declarator_heads.proofs.opens_declarator.Goals as goal
use Rattle.declarator_heads.proofs.opens_declarator.Goals.{in-Star, in_default}

-- the number of a kind that is one of two
either : (k i j : TokenKind) → (k ≡ i) ⊎ (k ≡ j) → (kind_number k ≡ kind_number i) ⊎ (kind_number k ≡ kind_number j)
either k i j (inl e) = inl (ap kind_number e)
either k i j (inr e) = inr (ap kind_number e)

pub returns-then-matches : goal.returns-then-matches
returns-then-matches c =
    let o = sym c.kind.ensures.is ∙ is_kind! c.kind.result OpenParen c.ne.ensures c.if-ne.false in
    elim c.match-matches.branch [
      | in-Star w ↦ record { of = λ t h i n. sym (by_mark (tokens c.args.ts.now) (model c.args.m) (state c.args.c t) o (rw (← c.kind-kind.ensures.is) (either c.kind-kind.result Star OpenParen w.in-Star.is))) }
      | in_default w ↦ absurd (true≢false (sym c.if-matches.true ∙ w.matches-is))
    ]

pub returns-then-not-is_name : goal.returns-then-not-is_name
returns-then-not-is_name c =
    let o = sym c.kind.ensures.is ∙ is_kind! c.kind.result OpenParen c.ne.ensures c.if-ne.false in
    let k = c.kind-kind.ensures.is in
    elim c.match-matches.branch [
      | in-Star w ↦ absurd (true≢false (sym w.matches-is ∙ c.if-matches.false))
      | in_default w ↦ record {
        of = λ t h i n. sym (by_other (tokens c.args.ts.now) (model c.args.m) (state c.args.c t) o (λ e. apart c.kind-kind.result Star w.in_default.not-Star (k ∙ e)) (λ e. apart c.kind-kind.result OpenParen w.in_default.not-OpenParen (k ∙ e))
            (ap is_name (sym k) ∙ sym c.if-not-is_name.ensures));
      }
    ]

pub returns-then-is_none : goal.returns-then-is_none
returns-then-is_none c = record {
  of = λ t h i n.
      let e = by_name (tokens c.args.ts.now) (model c.args.m) (state c.args.c t) (sym c.kind.ensures.is ∙ is_kind! c.kind.result OpenParen c.ne.ensures c.if-ne.false) c.is_none.result c.is_none-then-is_none.result c.typedef_row.result
      (sym c.if-not-is_name.ensures) (sym c.kind-kind.ensures.is) (c.typedef_row.ensures.of t h i n ∙ ap (typedef_row t) c.name.ensures.is) c.builtin.ensures c.is_none.ensures c.is_none-then-is_none.ensures in
      ap (λ b. b && c.is_none-then-is_none.result) (sym c.if-is_none.true) ∙ sym e;
}

pub returns-else-is_none : goal.returns-else-is_none
returns-else-is_none c = record {
  of = λ t h i n.
      let y = known (builtin (model c.args.m) (kind_number c.kind-kind.result)) in
      let e = by_name (tokens c.args.ts.now) (model c.args.m) (state c.args.c t) (sym c.kind.ensures.is ∙ is_kind! c.kind.result OpenParen c.ne.ensures c.if-ne.false) c.is_none.result (not (is_some y)) c.typedef_row.result
      (sym c.if-not-is_name.ensures) (sym c.kind-kind.ensures.is) (c.typedef_row.ensures.of t h i n ∙ ap (typedef_row t) c.name.ensures.is) refl c.is_none.ensures (sym (not_not (is_some y))) in
      c.if-is_none.false ∙ ap (λ b. b && not (is_some y)) (sym c.if-is_none.false) ∙ sym e;
}
