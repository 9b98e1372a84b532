-- What a call leaves in the lent slices, said number by number.
use Rattle.std.specs.Prelude.{◌≡◌, ℕ, ◌+◌, ◌*◌, ◌≤◌, ◌<◌, pos, length, get_or}
use Rattle.definition.specs.Limit.{max_rows, max_members, max_values, max_parameters, max_declarations}
use Rattle.definition.specs.Entry.{Accepted}
use Rattle.definition.specs.Lent.{Lent, words, wides, signeds}
use Rattle.definition.specs.Region.{words_length, wides_length, signeds_length}

-- On refusal "zero in every lent table".
pub record AllZero (l : Lent) : Type 0 where
  pub words : (i : ℕ) → get_or l.words i 0 ≡ 0
  pub wides : (i : ℕ) → get_or l.wides i 0 ≡ 0
  pub signeds : (i : ℕ) → get_or l.signeds i (pos 0) ≡ pos 0

-- A slice is neither longer nor shorter than before.
pub record AsLong (l l' : Lent) : Type 0 where
  pub words : length l'.words ≡ length l.words
  pub wides : length l'.wides ≡ length l.wides
  pub signeds : length l'.signeds ≡ length l.signeds

-- On acceptance the table's numbers, region after region, and zeros after the last region.
pub record Filled (a : Accepted) (l : Lent) : Type 0 where
  pub words_are : (i : ℕ) → i < words_length → get_or l.words i 0 ≡ get_or (words a) i 0
  pub words_after : (i : ℕ) → words_length ≤ i → get_or l.words i 0 ≡ 0
  pub wides_are : (i : ℕ) → i < wides_length → get_or l.wides i 0 ≡ get_or (wides a.table) i 0
  pub wides_after : (i : ℕ) → wides_length ≤ i → get_or l.wides i 0 ≡ 0
  pub signeds_are : (i : ℕ) → i < signeds_length → get_or l.signeds i (pos 0) ≡ get_or (signeds a.table) i (pos 0)
  pub signeds_after : (i : ℕ) → signeds_length ≤ i → get_or l.signeds i (pos 0) ≡ pos 0

-- Where the regions of the 32-bit numbers begin, after the rows: members, values, parameters, declarations, names.
abbrev pub members_begin : ℕ
members_begin = 6 * max_rows

abbrev pub values_begin : ℕ
values_begin = members_begin + 4 * max_members

abbrev pub parameters_begin : ℕ
parameters_begin = values_begin + 2 * max_values

abbrev pub declarations_begin : ℕ
declarations_begin = parameters_begin + 3 * max_parameters

abbrev pub names_begin : ℕ
names_begin = declarations_begin + 3 * max_declarations

-- "unused entries zero": in every region, number k and the next up to the region's end, where the entries that are used take k numbers.
pub record UnusedZero (a : Accepted) : Type 0 where
  pub rows : (i : ℕ) → 6 * length a.table.rows ≤ i → i < 6 * max_rows → get_or (words a) i 0 ≡ 0
  pub members : (i : ℕ) → 4 * length a.table.members ≤ i → i < 4 * max_members → get_or (words a) (members_begin + i) 0 ≡ 0
  pub values : (i : ℕ) → 2 * length a.table.values ≤ i → i < 2 * max_values → get_or (words a) (values_begin + i) 0 ≡ 0
  pub parameters : (i : ℕ) → 3 * length a.table.parameters ≤ i → i < 3 * max_parameters → get_or (words a) (parameters_begin + i) 0 ≡ 0
  pub declarations : (i : ℕ) → 3 * length a.table.declarations ≤ i → i < 3 * max_declarations → get_or (words a) (declarations_begin + i) 0 ≡ 0
  pub names : (i : ℕ) → 2 * length a.names ≤ i → get_or (words a) (names_begin + i) 0 ≡ 0
  pub row_wides : (i : ℕ) → length a.table.rows ≤ i → i < max_rows → get_or (wides a.table) i 0 ≡ 0
  pub member_wides : (i : ℕ) → 2 * length a.table.members ≤ i → get_or (wides a.table) (max_rows + i) 0 ≡ 0
  pub signeds : (i : ℕ) → length a.table.values ≤ i → get_or (signeds a.table) i (pos 0) ≡ pos 0
