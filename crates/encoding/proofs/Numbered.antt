-- Numbers back to values, and `==` on values as on their numbers. Assumes nothing.
use denote.Enum.Bare.{sameb}
use mathlib.Core.Path.{◌≡◌, refl}
use mathlib.Core.Bool.{true, false, not}
use Rattle.definition.specs.Table.{Storage, noStorage, typedefStorage, externStorage, staticStorage, autoStorage, storage_number}
use Rattle.encoding.specs.Storage.{storage, storage_numbered}
use Rattle.encoding.specs.contracts.storage.Storage.{the_type}
use Rattle.encoding.specs.declared.storage.Storage.{Storage as Class}
use Rattle.encoding.specs.declared.storage.Storage.TheVariants.{NoStorage, Typedef, Extern, Static, Auto}

pub numbered-storage : (s : Storage) → storage_numbered (storage_number s) ≡ s
unfolding storage_numbered storage_number
numbered-storage noStorage = refl
numbered-storage typedefStorage = refl
numbered-storage externStorage = refl
numbered-storage staticStorage = refl
numbered-storage autoStorage = refl

-- a class that was said, and none
pub has_class : (s : Class) → true ≡ not (sameb the_type s NoStorage) → storage_number (storage s) ≡ storage_number noStorage → ⊥
unfolding storage_number
has_class NoStorage d e = cc
has_class Typedef d e = cc
has_class Extern d e = cc
has_class Static d e = cc
has_class Auto d e = cc

pub no_class : (s : Class) → false ≡ not (sameb the_type s NoStorage) → storage_number (storage s) ≡ storage_number noStorage
unfolding storage_number
no_class NoStorage d = refl
no_class Typedef d = cc
no_class Extern d = cc
no_class Static d = cc
no_class Auto d = cc
