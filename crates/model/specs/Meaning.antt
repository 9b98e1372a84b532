-- What the code's models mean: each is read as a model of the definition.
use Rattle.std.specs.Prelude.{Option, Some, None}
use Rattle.std.proofs.Math.Option as maybe
use Rattle.definition.specs.Model.{Model as MeantModel}
use Rattle.model.specs.declared.Model.{Model}

abbrev pub model : Model → MeantModel
model m = record {
  char_signed = m.char_signed;
  short = m.short;
  int = m.int;
  long = m.long;
  long_long = m.long_long;
  pointer = m.pointer;
  float = m.float;
  double = m.double;
  long_double = m.long_double;
  max_align = m.max_align;
  enum_size = m.enum_size;
}

-- a model, if there is one
abbrev pub model_found : Option Model → maybe.Option MeantModel
model_found (Some m) = maybe.some (model m)
model_found None = maybe.none
