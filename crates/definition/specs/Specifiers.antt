-- Declaration specifiers (`specifiers`, `named_type` and `base_type` in 000; C11 6.7).
use Rattle.std.specs.Prelude.{Bool, true, false, ◌&&◌, ℕ, zero, suc, eqb, leb}
use Rattle.std.proofs.Math.Option.{none, some}
use Rattle.definition.specs.Answer.{got, refused, ◌>>=◌}
use Rattle.definition.specs.Refusal.{bad_type_words, unknown_type, layout_attribute}
use Rattle.definition.specs.Kind.{attribute, struct_word, union_word, enum_word, is_name, is_word}
use Rattle.definition.specs.Token.{Tokens, kind_at, number_at, left}
use Rattle.definition.specs.Model.{Model}
use Rattle.definition.specs.Row.{is_some}
use Rattle.definition.specs.Table.{Reads, skip}
use Rattle.definition.specs.Types.{typedef_row, add, qualify}
use Rattle.definition.specs.Specifier.{Specifiers, no_specifiers, storing, qualifying, based_on, wording, names_type, is_storage_word, storage_of, is_qualifier_word, with_qualifier, is_ignored_word, is_type_word, combine, builtin}
use Rattle.definition.specs.Grammar.{Levels}

-- the row of a type name: a typedef's, or that of a name that every program assumes
unfoldable pub named_type : Tokens → Model → Reads ℕ
named_type ts m s = elim (is_name (kind_at ts s.at)) [
  | false ↦ refused unknown_type s.at
  | true ↦ elim (typedef_row s.table (number_at ts s.at)) [
    | some n ↦ got (n, s)
    | none ↦ elim (builtin m (kind_at ts s.at)) [
      | some r ↦ add r s
      | none ↦ refused unknown_type s.at
    ]
  ]
]

-- the type that specifiers name, read from the offset `at`, with their qualifiers
unfoldable pub words_type : Model → Specifiers → ℕ → Reads ℕ
words_type m p at s = elim p.base [
  | some n ↦ got (n, s)
  | none ↦ elim (combine m p.words) [ some r ↦ add r s | none ↦ refused bad_type_words at ]
]

unfoldable pub base_type : Model → Specifiers → ℕ → Reads ℕ
base_type m p at s = do
  b ← words_type m p at s
  qualify p.qualifiers b.0 b.1

unfoldable pub is_tag_word : ℕ → Bool
is_tag_word k = leb struct_word k && leb k enum_word

module _ (ts : Tokens) (m : Model) (next : Levels) where
  -- the row of a struct, union or enum, by its keyword
  unfoldable pub tagged_type : ℕ → Reads ℕ
  tagged_type k s =
      elim (eqb k enum_word) [ true ↦ next.enumeration s | false ↦ next.composite (eqb k union_word) s ]

  -- Words are read on until one is no specifier; each round reads one.
  unfoldable pub specifiers_from : ℕ → Specifiers → Reads Specifiers
  specifiers_from zero p s = got (p, s)
  specifiers_from (suc f) p s = let k = kind_at ts s.at in
      elim (is_word k) [
        | false ↦ elim (eqb k attribute) [ true ↦ refused layout_attribute s.at | false ↦ got (p, s) ]
        | true ↦
            elim (is_storage_word k) [
              | true ↦ specifiers_from f (storing p (storage_of k)) (skip s)
              | false ↦
                  elim (is_qualifier_word k) [
                    | true ↦ specifiers_from f (qualifying p (with_qualifier k p.qualifiers)) (skip s)
                    | false ↦
                        elim (is_ignored_word k) [
                          | true ↦ specifiers_from f p (skip s)
                          | false ↦
                              elim (is_type_word k) [
                                | true ↦ elim (is_some p.base) [
                                  | true ↦ refused bad_type_words s.at
                                  | false ↦ specifiers_from f (wording p k) (skip s)
                                ]
                                | false ↦ elim (is_tag_word k) [
                                  | true ↦ elim (names_type p) [
                                    | true ↦ refused bad_type_words s.at
                                    | false ↦ (do
                                      b ← tagged_type k (skip s)
                                      specifiers_from f (based_on p b.0) b.1)
                                  ]
                                  | false ↦ elim (names_type p) [
                                    | true ↦ got (p, s)
                                    | false ↦ (do
                                      b ← named_type ts m s
                                      specifiers_from f (based_on p b.0) (skip b.1))
                                  ]
                                ]
                              ]
                        ]
                  ]
            ]
      ]

  unfoldable pub specifiers : Reads Specifiers
  specifiers s = specifiers_from (suc (left ts s.at)) no_specifiers s
