-- The words that name no type, as `specifiersFrom` takes them.
use Rattle.std.specs.Prelude.{Bool, true, false, ◌||◌, ℕ}
use Rattle.definition.specs.Answer.{refused, got, ◌>>=◌}
use Rattle.definition.specs.Refusal.{bad_type_words}
use Rattle.definition.specs.Token.{Tokens, kind_at}
use Rattle.definition.specs.Model.{Model}
use Rattle.definition.specs.Row.{is_some}
use Rattle.definition.specs.Table.{Reads, skip}
use Rattle.definition.specs.Specifier.{Specifiers, storing, qualifying, based_on, wording, names_type, is_storage_word, storage_of, is_qualifier_word, with_qualifier, is_ignored_word, is_type_word}
use Rattle.definition.specs.Specifiers.{specifiers_from, is_tag_word, tagged_type, named_type}
use Rattle.definition.specs.Grammar.{Levels}

unfoldable pub says_no_type : ℕ → Bool
says_no_type k = is_storage_word k || (is_qualifier_word k || is_ignored_word k)

-- what is said with one more of them
unfoldable pub with_said : Specifiers → ℕ → Specifiers
with_said p k = elim (is_storage_word k) [
  | true ↦ storing p (storage_of k)
  | false ↦ elim (is_qualifier_word k) [ true ↦ qualifying p (with_qualifier k p.qualifiers) | false ↦ p ]
]

-- the rest of a round of `specifiersFrom`, at a word that is none of them
unfoldable pub type_from : Tokens → Model → Levels → ℕ → Specifiers → Reads Specifiers
type_from ts m next f p s = let k = kind_at ts s.at in
    elim (is_type_word k) [
      | true ↦ elim (is_some p.base) [
        | true ↦ refused bad_type_words s.at
        | false ↦ specifiers_from ts m next f (wording p k) (skip s)
      ]
      | false ↦ elim (is_tag_word k) [
        | true ↦ elim (names_type p) [
          | true ↦ refused bad_type_words s.at
          | false ↦ (do
            b ← tagged_type ts m next k (skip s)
            specifiers_from ts m next f (based_on p b.0) b.1)
        ]
        | false ↦ elim (names_type p) [
          | true ↦ got (p, s)
          | false ↦ (do
            b ← named_type ts m s
            specifiers_from ts m next f (based_on p b.0) (skip b.1))
        ]
      ]
    ]
