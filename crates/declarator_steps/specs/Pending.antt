-- What the pending steps of a declarator mean. "struct holding the step arrays and their length": the first `len` entries are the steps,
-- those that a base type takes last standing first, so that each suffix that is read goes to the end. Stars wait for what they stand
-- before: the j-th that waits has its qualifiers in entry 255 - j.
use Rattle.std.specs.Prelude.{List, [], ◌∷◌, Bool, true, false, ℕ, zero, suc, ◌+◌, ◌-◌, ◌*◌, ◌/◌, ◌%◌, ◌^◌, ◌≤◌, ◌<◌, eqb, get_or, take, drop, replicate}
use Rattle.std.proofs.Math.Option.{none, some}
use Rattle.definition.specs.Limit.{max_steps}
use Rattle.definition.specs.Row.{Qualifiers, Span, qualifier_bits}
use Rattle.definition.specs.Grammar.{DeclaratorStep, pointer_step, array_step, function_step}
use Rattle.definition.specs.Declarator.{starred}
use Rattle.encoding.specs.Spans.{span}
use Rattle.lemmas.specs.Options.{option}
use Rattle.words.specs.Meaning.{qualifiers, qualifiers_in}
use Rattle.declarator_steps.specs.declared.Step.{Step}
use Rattle.declarator_steps.specs.declared.Step.TheVariants.{Pointer, Array, Function}
use Rattle.declarator_steps.specs.declared.Steps.{Steps}

-- Kinds of steps. An operand is a pointer's qualifiers, a bound, or where a function's parameters stand.
abbrev pub pointer_kind : ℕ
pointer_kind = 1

abbrev pub array_kind : ℕ
array_kind = 2  -- without a bound

abbrev pub bounded_kind : ℕ
bounded_kind = 3

abbrev pub function_kind : ℕ
function_kind = 4

abbrev pub variadic_kind : ℕ
variadic_kind = 5  -- a function with `...`

-- the first parameter in the upper half, how many in the lower
unfoldable pub span_of : ℕ → Span
span_of n = record { first = n / 2 ^ 32; count = n % 2 ^ 32 }

-- any other kind is a variadic function
unfoldable pub step_from : ℕ → ℕ → DeclaratorStep
step_from kind operand =
    elim (eqb kind pointer_kind) [
      | true ↦ pointer_step (qualifiers_in operand)
      | false ↦
          elim (eqb kind array_kind) [
            | true ↦ array_step none
            | false ↦
                elim (eqb kind bounded_kind) [
                  | true ↦ array_step (some operand)
                  | false ↦
                      elim (eqb kind function_kind) [ true ↦ function_step false (span_of operand) | false ↦ function_step true (span_of operand) ]
                ]
          ]
    ]

-- the step of an entry
abbrev pub step_in : List ℕ → List ℕ → ℕ → DeclaratorStep
step_in kinds operands i = step_from (get_or kinds i 0) (get_or operands i 0)

-- The other way: how a step is kept.
abbrev pub function_kind_of : Bool → ℕ
function_kind_of true = variadic_kind
function_kind_of false = function_kind

unfoldable pub kept : DeclaratorStep → ℕ × ℕ
kept (pointer_step q) = (pointer_kind, qualifier_bits q)
kept (array_step none) = (array_kind, 0)
kept (array_step (some n)) = (bounded_kind, n)
kept (function_step v e) = (function_kind_of v, 2 ^ 32 * e.first + e.count)

-- the step that one of the code means
abbrev pub step_of : Step → DeclaratorStep
step_of (Pointer q) = pointer_step (qualifiers q)
step_of (Array n) = array_step (option n)
step_of (Function v e) = function_step v (span e)

-- the first n entries as steps, the last of them first
unfoldable pub steps_from : List ℕ → List ℕ → ℕ → List DeclaratorStep
steps_from kinds operands zero = []
steps_from kinds operands (suc n) = step_from (get_or kinds n 0) (get_or operands n 0) ∷ steps_from kinds operands n

-- n stars that wait, the newest first
unfoldable pub stars_from : List ℕ → ℕ → List Qualifiers
stars_from operands zero = []
stars_from operands (suc n) = qualifiers_in (get_or operands (max_steps - suc n) 0) ∷ stars_from operands n

-- Steps in the order in which a base type takes them, and the stars that wait, the newest first.
pub record Pending : Type 0 where
  pub steps : List DeclaratorStep
  pub stars : List Qualifiers

abbrev pub pending : Steps → Pending
pending s = record { steps = steps_from s.kinds s.operands s.len; stars = stars_from s.operands s.held }

abbrev pub none_pending : Pending
none_pending = record { steps = []; stars = [] }

-- as they start: "[0; 256] arrays of kinds and operands"
abbrev pub no_steps : Steps
no_steps = record { kinds = replicate max_steps 0; operands = replicate max_steps 0; len = 0; held = 0 }

abbrev pub with_step : Pending → DeclaratorStep → Pending
with_step p x = record { steps = x ∷ p.steps; stars = p.stars }

abbrev pub with_star : Pending → Qualifiers → Pending
with_star p q = record { steps = p.steps; stars = q ∷ p.stars }

-- the newest n stars stop waiting, and become steps
abbrev pub released : ℕ → Pending → Pending
released n p = record { steps = starred (take n p.stars) p.steps; stars = drop n p.stars }

-- room for one more
pub record Room (s : Steps) : Type 0 where
  pub below : s.len + s.held < max_steps

-- n stars wait, and steps and stars do not meet
pub record Waiting (s : Steps) (n : ℕ) : Type 0 where
  pub stars : n ≤ s.held
  pub apart : s.len + s.held ≤ max_steps
