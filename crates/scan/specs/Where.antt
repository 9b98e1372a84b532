-- The place that a `Spot` of the code is.
use Rattle.definition.specs.Place.{Place}
use Rattle.scan.specs.declared.Spot.{Spot}

abbrev pub place : Spot → Place
place s = record { line = s.line; column = s.column }
