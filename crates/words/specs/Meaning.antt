-- What the values of the code mean: each is read as a value of the definition.
use Rattle.std.specs.Prelude.{List, [], ◌∷◌, ℕ, ◌/◌, ◌%◌, eqb, Option, Some, None}
use Rattle.std.proofs.Math.Option as maybe
use Rattle.definition.specs.Row.{Row, Qualifiers as MeantQualifiers, kind_of, flags_of, extent_of}
use Rattle.definition.specs.Specifier.{Specifiers as MeantSpecifiers}
use Rattle.encoding.specs.Storage.{storage}
use Rattle.words.specs.declared.qualifiers.Qualifiers.{Qualifiers}
use Rattle.words.specs.declared.counts.Words.{Words}
use Rattle.words.specs.declared.types.BaseRow.{BaseRow}
use Rattle.words.specs.declared.specifiers.Specifiers.{Specifiers}

abbrev pub qualifiers : Qualifiers → MeantQualifiers
qualifiers q = record { const = q.is_const; volatile = q.is_volatile; restrict = q.is_restrict }

-- the qualifiers of a row's flags
unfoldable pub qualifiers_in : ℕ → MeantQualifiers
qualifiers_in bits = record { const = eqb (bits % 2) 1; volatile = eqb (bits / 2 % 2) 1; restrict = eqb (bits / 4 % 2) 1 }

-- the counts, from `void` to `_Complex`
abbrev pub counts : Words → List ℕ
counts w = w.void ∷ w.char ∷ w.short ∷ w.int ∷ w.long ∷ w.float ∷ w.double ∷ w.signed ∷ w.unsigned ∷ w.bool ∷ w.complex ∷ []

abbrev pub base : Option ℕ → maybe.Option ℕ
base (Some n) = maybe.some n
base None = maybe.none

abbrev pub specifiers : Specifiers → MeantSpecifiers
specifiers p = record {
  storage = storage p.storage;
  qualifiers = qualifiers p.qualifiers;
  base = base p.base;
  words = counts p.words;
}

-- The other way: the numbers by which the code knows a row that has no others, and its answer where there may be none.
unfoldable pub numbers : Row → BaseRow
numbers x = record { kind = kind_of x; flags = flags_of x; extent = extent_of x }

unfoldable pub known : maybe.Option Row → Option BaseRow
known (maybe.some x) = Some (numbers x)
known maybe.none = None
