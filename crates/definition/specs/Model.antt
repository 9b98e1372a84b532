-- Data models: "one of three data models, lp64, ilp32 and llp64, with the numbers of `Model` (001), numbered 0, 1, 2".
use Rattle.std.specs.Prelude.{Bool, true, false, ℕ, eqb}
use Rattle.std.proofs.Math.Option.{Option, none, some}

-- The eleven numbers: sizes in bytes, and the largest alignment of a scalar.
pub record Model : Type 0 where
  pub char_signed : Bool
  pub short : ℕ
  pub int : ℕ
  pub long : ℕ
  pub long_long : ℕ
  pub pointer : ℕ
  pub float : ℕ
  pub double : ℕ
  pub long_double : ℕ
  pub max_align : ℕ
  pub enum_size : ℕ

unfoldable pub lp64 : Model
lp64 = record {
  char_signed = true;
  short = 2;
  int = 4;
  long = 8;
  long_long = 8;
  pointer = 8;
  float = 4;
  double = 8;
  long_double = 16;
  max_align = 16;
  enum_size = 4;
}

unfoldable pub ilp32 : Model
ilp32 = record {
  char_signed = true;
  short = 2;
  int = 4;
  long = 4;
  long_long = 8;
  pointer = 4;
  float = 4;
  double = 8;
  long_double = 12;
  max_align = 4;
  enum_size = 4;
}

unfoldable pub llp64 : Model
llp64 = record {
  char_signed = true;
  short = 2;
  int = 4;
  long = 4;
  long_long = 8;
  pointer = 8;
  float = 4;
  double = 8;
  long_double = 8;
  max_align = 8;
  enum_size = 4;
}

-- the model of a number, if it has one
unfoldable pub model_of : ℕ → Option Model
model_of n =
    elim (eqb n 0) [
      | true ↦ some lp64
      | false ↦
          elim (eqb n 1) [
            | true ↦ some ilp32
            | false ↦
                elim (eqb n 2) [ true ↦ some llp64 | false ↦ none ]
          ]
    ]
