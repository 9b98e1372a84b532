-- Under every data model: enumerators do not bear on it.
use Rattle.definition.specs.Model.{Model}

pub record Under (P : Model → Type 0) : Type 0 where
  pub model : (m : Model) → P m
