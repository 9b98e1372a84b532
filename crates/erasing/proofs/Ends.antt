-- All that a refused text left is taken out. Assumes nothing.
use mathlib.Core.Path.{◌≡◌, refl, ap, ◌∙◌}
use mathlib.Core.Bool.{Bool, true, false}
use mathlib.Core.List.{List}
use Prim.Native.Nat.{ℕ, ◌+◌, ◌*◌, ◌≤◌}
use native.Mathlib.Omega.{arith}
use lib.Dec.{ltb}
use lib.IntN.{ℤ, pos}
use lib.ListN.{get_or}
use borrow.Author.Tests.{ltb-true, ltb-false}
use Rattle.definition.specs.Limit.{max_rows, max_values}
use Rattle.definition.specs.Region.{words_length, wides_length, signeds_length, parameters_at, declarations_at, names_at, members_at, values_at}
use Rattle.table.specs.Held.{marks_at, counts_of, Encodes, Left, Long, last_declaration_at, last_member_at, last_parameter_at, last_value_at, top_at}
use Rattle.table.proofs.Shown.{long}
use Rattle.table.proofs.Index.{rest-get}
use Rattle.erasing.specs.Taken.{Zeros, Out, NamesOut, RestOut, counted}
use Rattle.erasing.specs.Erased.{Erased}
use Rattle.erasing.proofs.Blanks.{all-zero}
use Rattle.erasing.proofs.Names.{blank-index}
use Rattle.erasing.proofs.Past.{rows-past, members-past, values-past, parameters-past, declarations-past, extents-past, places-past, signeds-past}

module _ {E : Type 0} (z : E) where
  join : (xs : List E) {a b c : ℕ} → Zeros z a b xs → Zeros z b c xs → Zeros z a c xs
  join xs {b = b} f g i p q = go (ltb i b) refl
    where
      go : (t : Bool) → ltb i b ≡ t → get_or xs i z ≡ z
      go true e = f i p (ltb-true i b e)
      go false e = g i (ltb-false i b e) q

  -- of the same numbers, from later on
  later : {xs ys : List E} {a a' b : ℕ} → xs ≡ ys → Zeros z a b ys → a ≤ a' → Zeros z a' b xs
  later e f p i q s = ap (λ (l : List E). get_or l i z) e ∙ f i (omega arith) s

-- the parts of w after the values
module _ {w w₁ w₂ w₃ : List ℕ} (p : Out 0 parameters_at (parameters_at + 3 * counted w 3) declarations_at w w₁) (s : Out 0 declarations_at (declarations_at + 3 * counted w₁ 4) names_at w₁ w₂) (n : NamesOut w₂ w₃) where
  abbrev same₁ : (i : ℕ) → declarations_at ≤ i → get_or w₁ i 0 ≡ get_or w i 0
  same₁ i l = p.others i (λ x y. omega arith)

  abbrev same₂ : (i : ℕ) → names_at ≤ i → get_or w₂ i 0 ≡ get_or w i 0
  same₂ i l = s.others i (λ x y. omega arith) ∙ same₁ i (omega arith)

  pub rest_out : RestOut w w₃
  rest_out = record {
    long = n.long ∙ (s.long ∙ p.long);
    zero = λ f g h.
        let a : Zeros 0 parameters_at declarations_at w₃ = λ i x y. n.others i (omega arith) ∙ (s.others i (λ u v. omega arith) ∙ p.zero f i x y) in
        let m = same₁ (names_at + last_declaration_at) (omega arith) in
        let b : Zeros 0 declarations_at names_at w₃ = λ i x y. n.others i y ∙ s.zero (λ j u v. same₁ j (omega arith) ∙ g j (omega arith) v) i x y in
        let e = same₂ (names_at + top_at) (omega arith) in
        let c : Zeros 0 names_at words_length w₃ = n.zero (λ j u v. same₂ j (omega arith) ∙ h j (omega arith) v) in
        join 0 w₃ a (join 0 w₃ b c);
    others = λ i l. n.others i (omega arith) ∙ (s.others i (λ x y. omega arith) ∙ p.others i (λ x y. omega arith));
  }

-- slices of other lengths hold no table
pub erased-none : {w d : List ℕ} {v : List ℤ} → (Long w d v → ⊥) → Erased w d v w d v
erased-none f = record { run = λ l. absurd (f (long l.encodes)) }

module _ {w d w₁ w₂ w₃ w₄ d₁ d₂ : List ℕ} {v v₁ : List ℤ}
    (r : Out 0 0 (6 * counted w 0) members_at w w₁ × Out 0 0 (counted w 0) max_rows d d₁)
    (m : Out 0 members_at (members_at + 4 * counted w₁ 1) values_at w₁ w₂ × Out 0 1024 (1024 + 2 * counted w₁ 1) wides_length d₁ d₂)
    (s : Out 0 values_at (values_at + 2 * counted w₂ 2) parameters_at w₂ w₃ × Out (pos 0) 0 (counted w₂ 2) max_values v v₁)
    (x : RestOut w₃ w₄) where
  after-rows : (i : ℕ) → members_at ≤ i → get_or w₁ i 0 ≡ get_or w i 0
  after-rows i p = r.0.others i (λ a b. omega arith)

  after-members : (i : ℕ) → values_at ≤ i → get_or w₂ i 0 ≡ get_or w i 0
  after-members i p = m.0.others i (λ a b. omega arith) ∙ after-rows i (omega arith)

  after-values : (i : ℕ) → parameters_at ≤ i → get_or w₃ i 0 ≡ get_or w i 0
  after-values i p = s.0.others i (λ a b. omega arith) ∙ after-members i (omega arith)

  module _ (l : Left w d v) where
    abbrev e : Encodes l.table l.cursor w d v
    e = l.encodes

    abbrev rest : List ℕ
    rest = e.words.rest

    -- the marks count all entries
    mark : (k : ℕ) → get_or (counts_of l.cursor) k 0 ≤ counted w k
    mark k = omega (arith, e.marks.last k, rest-get e.words (marks_at + k) (names_at + marks_at + k) (omega arith))

    words-zero : Zeros 0 0 words_length w₄
    words-zero =
        let f = e.words.fits in
        let c = e.counts in
        let a : Zeros 0 0 members_at w₁ = r.0.zero (later 0 e.words.are (rows-past l.table f rest) (omega (arith, mark 0))) in
        let m₁ = after-rows (names_at + last_member_at) (omega arith) in
        let b : Zeros 0 members_at values_at w₂ = m.0.zero (λ i p q. after-rows i (omega arith) ∙ later 0 e.words.are (members-past l.table f rest) (omega (arith, mark 1)) i p q) in
        let m₂ = after-members (names_at + last_value_at) (omega arith) in
        let g : Zeros 0 values_at parameters_at w₃ = s.0.zero (λ i p q. after-members i (omega arith) ∙ later 0 e.words.are (values-past l.table f rest) (omega (arith, mark 2)) i p q) in
        let m₃ = after-values (names_at + last_parameter_at) (omega arith) in
        let m₄ = after-values (names_at + last_declaration_at) (omega arith) in
        let m₅ = after-values (names_at + top_at) (omega arith) in
        let h : Zeros 0 parameters_at words_length w₄ = x.zero
        (λ i p q. after-values i (omega arith) ∙ later 0 e.words.are (parameters-past l.table f rest) (omega (arith, mark 3)) i p q)
        (λ i p q. after-values i (omega arith) ∙ later 0 e.words.are (declarations-past l.table f rest) (omega (arith, mark 4)) i p q)
        (λ i p q. after-values i (omega arith) ∙ blank-index e.words e.marks i (omega arith) q) in
        join 0 w₄ (λ i p q. x.others i (omega arith) ∙ (s.0.others i (λ y z. omega arith) ∙ (m.0.others i (λ y z. omega arith) ∙ a i p q)))
        (join 0 w₄ (λ i p q. x.others i (omega arith) ∙ (s.0.others i (λ y z. omega arith) ∙ b i p q))
        (join 0 w₄ (λ i p q. x.others i q ∙ g i p q) h))

    wides-zero : Zeros 0 0 wides_length d₂
    wides-zero =
        let f = e.wides.fits in
        let c = e.counts in
        let a : Zeros 0 0 max_rows d₁ = r.1.zero (later 0 e.wides.are (extents-past l.table f) (omega (arith, mark 0))) in
        let m₁ = after-rows (names_at + last_member_at) (omega arith) in
        let b : Zeros 0 max_rows wides_length d₂ = m.1.zero (λ i p q. r.1.others i (λ y z. omega arith) ∙ later 0 e.wides.are (places-past l.table f) (omega (arith, mark 1)) i p q) in
        join 0 d₂ (λ i p q. m.1.others i (λ y z. omega arith) ∙ a i p q) b

    signeds-zero : Zeros (pos 0) 0 signeds_length v₁
    signeds-zero =
        let c = e.counts in
        let m₂ = after-members (names_at + last_value_at) (omega arith) in
        s.1.zero (later (pos 0) e.signeds.are (signeds-past l.table e.signeds.fits) (omega (arith, mark 2)))

  pub erased : Erased w d v w₄ d₂ v₁
  erased = record {
    run = λ l.
        let n = long l.encodes in (
          all-zero 0 words_length w₄ (x.long ∙ (s.0.long ∙ (m.0.long ∙ (r.0.long ∙ n.words)))) (λ i p. words-zero l i (omega arith) p),
          (
            all-zero 0 wides_length d₂ (m.1.long ∙ (r.1.long ∙ n.wides)) (λ i p. wides-zero l i (omega arith) p),
            all-zero (pos 0) signeds_length v₁ (s.1.long ∙ n.signeds) (λ i p. signeds-zero l i (omega arith) p),
          ),
        );
  }
