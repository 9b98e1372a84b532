-- What a declaration's specifiers say: storage, qualifiers, and the words or the row of its type.
use Rattle.std.specs.Prelude.{List, [], ◌∷◌, Bool, true, false, ◌&&◌, ◌||◌, ℕ, ◌+◌, ◌-◌, eqb, leb, ltb, get_or, set, replicate}
use Rattle.std.proofs.Math.Option.{Option, none, some}
use Rattle.definition.specs.Kind.{int8_name, int16_name, int32_name, int64_name, uint8_name, uint16_name, uint32_name, uint64_name, intmax_name, uintmax_name, intptr_name, ssize_name, ptrdiff_name, uintptr_name, size_name, wchar_name, char8_name, char16_name, char32_name, bool_name, void_word, char_word, short_word, int_word, long_word, float_word, double_word, signed_word, unsigned_word, bool_word, complex_word, const_word, volatile_word, restrict_word, atomic_word, typedef_word, extern_word, static_word, register_word, inline_word, extension_word}
use Rattle.definition.specs.Model.{Model}
use Rattle.definition.specs.Row.{Row, void, int, float, bool, Qualifiers, unqualified, is_some}
use Rattle.definition.specs.Table.{Storage, noStorage, typedefStorage, externStorage, staticStorage, autoStorage}

-- How often each type word was read, from `void` to `_Complex`.
abbrev pub Words : Type 0
Words = List ℕ

abbrev pub no_words : Words
no_words = replicate 11 0

abbrev pub how_many : ℕ → Words → ℕ
how_many word ws = get_or ws (word - void_word) 0

unfoldable pub with_word : ℕ → Words → Words
with_word word ws = set ws (word - void_word) (how_many word ws + 1)

unfoldable pub total : Words → ℕ
total [] = 0
total (n ∷ ns) = n + total ns

pub record Specifiers : Type 0 where
  pub storage : Storage
  pub qualifiers : Qualifiers
  pub base : Option ℕ  -- the row of a struct, union, enum or type name
  pub words : Words

abbrev pub no_specifiers : Specifiers
no_specifiers = record { storage = noStorage; qualifiers = unqualified; base = none; words = no_words }

abbrev pub storing : Specifiers → Storage → Specifiers
storing p c = record { storage = c; qualifiers = p.qualifiers; base = p.base; words = p.words }

abbrev pub qualifying : Specifiers → Qualifiers → Specifiers
qualifying p q = record { storage = p.storage; qualifiers = q; base = p.base; words = p.words }

abbrev pub based_on : Specifiers → ℕ → Specifiers
based_on p n = record { storage = p.storage; qualifiers = p.qualifiers; base = some n; words = p.words }

abbrev pub wording : Specifiers → ℕ → Specifiers
wording p k = record { storage = p.storage; qualifiers = p.qualifiers; base = p.base; words = with_word k p.words }

-- a type has been named, by a row or by words
unfoldable pub names_type : Specifiers → Bool
names_type p = is_some p.base || ltb 0 (total p.words)

-- ---- classes of words

unfoldable pub is_storage_word : ℕ → Bool
is_storage_word k = leb typedef_word k && leb k register_word

unfoldable pub storage_of : ℕ → Storage
storage_of k =
    elim (eqb k typedef_word) [
      | true ↦ typedefStorage
      | false ↦
          elim (eqb k extern_word) [
            | true ↦ externStorage
            | false ↦
                elim (eqb k static_word) [ true ↦ staticStorage | false ↦ autoStorage ]
          ]
    ]

unfoldable pub is_qualifier_word : ℕ → Bool
is_qualifier_word k = leb const_word k && leb k restrict_word

unfoldable pub with_qualifier : ℕ → Qualifiers → Qualifiers
with_qualifier k q = record { const = q.const || eqb k const_word; volatile = q.volatile || eqb k volatile_word; restrict = q.restrict || eqb k restrict_word }

-- `_Atomic`, `inline` and the like say nothing of the layout
unfoldable pub is_ignored_word : ℕ → Bool
is_ignored_word k = eqb k atomic_word || (leb inline_word k && leb k extension_word)

unfoldable pub is_type_word : ℕ → Bool
is_type_word k = leb void_word k && leb k complex_word

-- ---- `combine`: the type that the words make, if any

abbrev pub only_word : Words → Row → Option Row
only_word ws r = elim (eqb (total ws) 1) [ true ↦ some r | false ↦ none ]

abbrev pub signs : Words → ℕ
signs ws = how_many signed_word ws + how_many unsigned_word ws

-- signed unless `unsigned` is said
abbrev pub signedness : Words → Bool
signedness ws = eqb (how_many unsigned_word ws) 0

unfoldable pub double_type : Model → Words → Option Row
double_type m ws = elim (ltb 0 (how_many short_word ws) || (ltb 0 (how_many int_word ws) || (ltb 0 (signs ws) || ltb 1 (how_many long_word ws)))) [
  | true ↦ none
  | false ↦ elim (eqb (how_many long_word ws) 1) [ true ↦ some (float m.long_double) | false ↦ some (float m.double) ]
]

unfoldable pub char_type : Model → Words → Option Row
char_type m ws = elim (ltb 0 (how_many short_word ws) || (ltb 0 (how_many long_word ws) || ltb 0 (how_many int_word ws))) [
  | true ↦ none
  | false ↦ elim (eqb (signs ws) 0) [ true ↦ some (int 1 m.char_signed) | false ↦ some (int 1 (signedness ws)) ]
]

unfoldable pub short_type : Model → Words → Option Row
short_type m ws = elim (ltb 0 (how_many long_word ws)) [ true ↦ none | false ↦ some (int m.short (signedness ws)) ]

-- `int`, `long` and `long long`, with or without a sign; no word at all is no type
unfoldable pub int_type : Model → Words → Option Row
int_type m ws = elim (eqb (how_many int_word ws + signs ws + how_many long_word ws) (total ws) && ltb 0 (total ws)) [
  | false ↦ none
  | true ↦ elim (eqb (how_many long_word ws) 0) [
    | true ↦ some (int m.int (signedness ws))
    | false ↦
        elim (eqb (how_many long_word ws) 1) [
          | true ↦ some (int m.long (signedness ws))
          | false ↦
              elim (eqb (how_many long_word ws) 2) [ true ↦ some (int m.long_long (signedness ws)) | false ↦ none ]
        ]
  ]
]

unfoldable pub combine : Model → Words → Option Row
combine m ws =
    elim (ltb 1 (signs ws)) [
      | true ↦ none
      | false ↦
          elim (ltb 0 (how_many complex_word ws)) [
            | true ↦ none
            | false ↦
                elim (ltb 0 (how_many void_word ws)) [
                  | true ↦ only_word ws void
                  | false ↦
                      elim (ltb 0 (how_many bool_word ws)) [
                        | true ↦ only_word ws bool
                        | false ↦
                            elim (ltb 0 (how_many float_word ws)) [
                              | true ↦ only_word ws (float m.float)
                              | false ↦
                                  elim (ltb 0 (how_many double_word ws)) [
                                    | true ↦ double_type m ws
                                    | false ↦
                                        elim (ltb 0 (how_many char_word ws)) [
                                          | true ↦ char_type m ws
                                          | false ↦
                                              elim (ltb 0 (how_many short_word ws)) [ true ↦ short_type m ws | false ↦ int_type m ws ]
                                        ]
                                  ]
                            ]
                      ]
                ]
          ]
    ]

-- ---- `builtin`: the type of a name that every C program assumes

unfoldable pub type_in : ℕ → List (ℕ × Row) → Option Row
type_in k [] = none
type_in k (x ∷ xs) = elim (eqb k x.0) [ true ↦ some x.1 | false ↦ type_in k xs ]

unfoldable pub builtin : Model → ℕ → Option Row
builtin m k = type_in k (
    (int8_name, int 1 true) ∷ (int16_name, int 2 true) ∷ (int32_name, int 4 true) ∷ (int64_name, int 8 true)
    ∷ (uint8_name, int 1 false) ∷ (uint16_name, int 2 false) ∷ (uint32_name, int 4 false) ∷ (uint64_name, int 8 false)
    ∷ (intmax_name, int 8 true) ∷ (uintmax_name, int 8 false)
    ∷ (intptr_name, int m.pointer true) ∷ (ssize_name, int m.pointer true) ∷ (ptrdiff_name, int m.pointer true)
    ∷ (uintptr_name, int m.pointer false) ∷ (size_name, int m.pointer false)
    ∷ (wchar_name, int 4 true) ∷ (char8_name, int 1 false) ∷ (char16_name, int 2 false) ∷ (char32_name, int 4 false)
    ∷ (bool_name, bool) ∷ [])
