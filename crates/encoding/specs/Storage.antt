-- Storage as the code has it, read as the definition's, and the storage of a number.
use Rattle.std.specs.Prelude.{true, false, ℕ, eqb}
use Rattle.definition.specs.Table.{Storage as MeantStorage, noStorage, typedefStorage, externStorage, staticStorage, autoStorage}
use Rattle.encoding.specs.declared.storage.Storage.{Storage}
use Rattle.encoding.specs.declared.storage.Storage.TheVariants.{NoStorage, Typedef, Extern, Static, Auto}

abbrev pub storage : Storage → MeantStorage
storage NoStorage = noStorage
storage Typedef = typedefStorage
storage Extern = externStorage
storage Static = staticStorage
storage Auto = autoStorage

unfoldable pub storage_numbered : ℕ → MeantStorage
storage_numbered n =
    elim (eqb n 0) [
      | true ↦ noStorage
      | false ↦
          elim (eqb n 1) [
            | true ↦ typedefStorage
            | false ↦
                elim (eqb n 2) [
                  | true ↦ externStorage
                  | false ↦
                      elim (eqb n 3) [ true ↦ staticStorage | false ↦ autoStorage ]
                ]
          ]
    ]
