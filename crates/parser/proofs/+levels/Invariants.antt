use Prim.Native.Nat.{ℕ}
use borrow.Author.Rules.{rules}
use native.Mathlib.Omega.{arith}
use Rattle.table.proofs.Shown.{held_at, step-on}
use Rattle.table.proofs.Steps.{there, is+, is-}
use Rattle.parser.specs.Pieces.{after_type}
use mathlib.Core.Path.{refl, ap}
use Rattle.table.proofs.Shown.{call, refuse, held_on}
use Rattle.parser.proofs.Composites.{from_first}
use mathlib.Core.Path.{refl}
use Rattle.table.proofs.Branch.{by, yes!, nay! }
use Rattle.table.proofs.Shown.{no!, held_at, step-on}
use Rattle.definition.specs.Composite.{composite₁}
use Rattle.enumerators.proofs.Naming.{no_name_lem, a-name, inside}
use Rattle.parser.proofs.Composites.{no_level, a-level, tagged}
use Rattle.table.proofs.Branch.{by}
use Rattle.table.proofs.Shown.{no!, held}
use Rattle.parser.proofs.Declaring.{stops, no_declarator, stars_starting, stars-stop, stars-held, unstarred, direct-stop, stars_wait, direct-done}
use native.Mathlib.Nat.{lt_of_lt_of_le}
use mathlib.Core.Path.{refl, sym, ap, ◌∙◌}
use Rattle.encoding.specs.Kinds.{kind_numbers}
use Rattle.parser.specs.Parsing.{tokens_of, model_of, levels_of}
use Rattle.table.proofs.Rounds.{starts-at, turn}
use Rattle.table.proofs.Shown.{got-at, no!, call, fail, held, held_at, held_on}
use Rattle.table.proofs.Steps.{there, is+, is-, ate, missed}
use Rattle.definition.specs.Composite.{member_declarators}
use Rattle.definition.specs.Token.{left}
use Rattle.definition_laws.proofs.Progress.{member_declarator-on, levels-on}
use Rattle.parser.specs.Pieces.{declarators_in}
use Rattle.parser.proofs.Goes.{moves-on}
use Rattle.parser.proofs.Lists.{Reading, begin, fewer, lone}
use Rattle.parser.proofs.Declaring.{starts-empty, typed-stop, declared_held, declared_few, typed-refused, typed-done}
use Rattle.parser.proofs.Plain.{a-name as plain-name, name-there, typed-plain}
use Rattle.table.proofs.Shown.{no!, held_at}
use Rattle.table.proofs.Steps.{there}
use mathlib.Core.Bool.{not}
use borrow.Author.Tests.{not-true, not-false}
use Rattle.parser.proofs.Declaring.{stops, no_direct, opens-there, by_name, by-nothing, inner-stop, not_closed_lem, closed, declared_held, declared_waits}
use Prim.Native.Nat.{ℕ, ◌<◌}
use Prim.Native.Nat.{◌+◌, ◌*◌}
use Rattle.table.proofs.Branch.{yes!, nay! }
use Rattle.table.proofs.Shown.{call, refuse, held, held_at, held_on, step-on}
use Rattle.table.specs.Reply.{reply}
use Prim.Native.Nat.{◌+◌}
use Rattle.table.specs.Held.{state, moved_to}
use Rattle.definition.specs.Declarator.{parameters_from}
use Rattle.definition_laws.proofs.Progress.{parameter-on, levels-on}
use Rattle.parameter_entries.proofs.Entries.{entered}
use Rattle.parser.specs.Answers.{typed}
use Rattle.parser.proofs.Goes.{typed-on, stays}
use Rattle.parser.proofs.Lists.{Entering, begin, enough, fewer, entry-on, one_more, one_fewer, added_parameter-stays, counted-end, counted-on}
use Rattle.table.proofs.Branch.{by, eq+, eq-}
use Rattle.table.proofs.Shown.{no!, call, refuse, held_on}
use Rattle.definition.specs.Table.{storage_number}
use Rattle.definition_laws.proofs.Progress.{specifiers-on, levels-on}
use Rattle.definition_laws.proofs.TableProgress.{base_type-stays}
use Rattle.parser.proofs.Made.{declaration-made}
use Rattle.parser.proofs.Goes.{on, stays}
use Rattle.parser.proofs.Composites.{enough as member-enough}
use Rattle.table.proofs.Rounds.{starts, starts-at, turn}
use Rattle.definition.specs.Composite.{members_from}
use Rattle.definition_laws.proofs.Progress.{member_declaration-past, levels-on}
use Rattle.parser.proofs.Goes.{moves-past}
use Rattle.parser.proofs.Lists.{members_in, Reading, enough, begin, fewer, fewer-past, here-still}
use Rattle.table.proofs.Steps.{is+, is-}
use Rattle.parser.proofs.Made.{member-made}
use mathlib.Core.Path.{refl, ap, ◌∙◌}
use Rattle.parser.proofs.Made.{parameter-made}
use mathlib.Core.Path.{sym, ◌∙◌}
use Rattle.definition.specs.Declarator.{parameters as meant_parameters}
use Rattle.parser.proofs.Lists.{empty-list, from_next}
use Rattle.table.proofs.Rounds.{turn}
use Rattle.table.proofs.Shown.{got!, no!, refuse, held}
use Rattle.words.specs.Meaning.{specifiers as said}
use Rattle.parser.proofs.TypeWords.{Specifying, begin as words-begin, inside as words-inside, fewer as words-fewer, room_for, next-said, next_word, past_row, next_row, at-attribute, at_mark, at_word_twice, at_tag_twice, at_name, at_row}
use mathlib.Core.Option.{none, some}
use Rattle.table.proofs.Branch.{eq+, eq-}
use Rattle.table.proofs.Shown.{call, refuse}
use Rattle.parser.specs.Pieces.{suffix_step}
use Rattle.parser.proofs.Declaring.{got_as}
use Rattle.table.proofs.Shown.{held, held_at}
use mathlib.Core.Logic.{⊎_elim, inl, inr}
use Rattle.declarator_heads.proofs.Rounds.{has_room}
use Rattle.parser.proofs.Declaring.{Suffixing, begin as suffixes-begin, ended, suffix-there, full, suffix-stop, fewer as suffixes-fewer, again}
use Rattle.definition.specs.Specifiers.{tagged_type}
use Rattle.table.proofs.Shown.{got-at, call, fail, held_at, step-on}
use Rattle.parser.proofs.TypeWords.{by-tag, by_name as words-by_name, past-name}
use Rattle.table.proofs.Shown.{got!, call, fail, refuse, held_at, held_on, step-on}
use Rattle.definition.specs.Composite.{tagged_composite, define_body}
use Rattle.member_entries.specs.Ended.{laid}
use Rattle.table.proofs.Shown.{no!, call, refuse, held_at, held_on, step-on}
use Rattle.definition.specs.Composite.{untagged_composite}
use Rattle.parser.proofs.Composites.{first_fits}
use Rattle.parser.proofs.+levels.Given as goal

abbrev pub decreases-declarators : goal.decreases-declarators
decreases-declarators l = 20 * l.room + 4

abbrev pub invariant-declarators-loop-e : goal.invariant-declarators-loop-e
invariant-declarators-loop-e l = Reading (tokens_of l.parser) (declarators_in (tokens_of l.parser) (model_of l.parser) (levels_of l.parser l.room) l.first l.b) (declarators_in (tokens_of l.parser) (model_of l.parser) (levels_of l.parser l.room) l.first l.b) l.initial.here l.initial.w l.initial.d l.initial.v l.here l.w l.d l.v

abbrev pub decreases-declarators-loop-e : goal.decreases-declarators-loop-e
decreases-declarators-loop-e l = left (tokens_of l.parser) l.here.at

abbrev pub decreases-after_type : goal.decreases-after_type
decreases-after_type l = 20 * l.room + 5

abbrev pub decreases-body : goal.decreases-body
decreases-body l = 20 * l.room + 8

abbrev pub decreases-composite : goal.decreases-composite
decreases-composite l = 20 * l.room + 0

abbrev pub decreases-declarator : goal.decreases-declarator
decreases-declarator l = 20 * l.room + 0

abbrev pub decreases-declared_type : goal.decreases-declared_type
decreases-declared_type l = 20 * l.room + 2

abbrev pub decreases-stepped_type : goal.decreases-stepped_type
decreases-stepped_type l = 20 * l.room + 1

abbrev pub decreases-direct : goal.decreases-direct
decreases-direct l = 20 * l.room + 0

abbrev pub decreases-list : goal.decreases-list
decreases-list l = 20 * l.room + 6

abbrev pub invariant-list-loop-here : goal.invariant-list-loop-here
invariant-list-loop-here l = Entering (tokens_of l.parser) (model_of l.parser) l.room l.first l.initial.here l.initial.w l.initial.d l.initial.v l.n l.here l.w l.d l.v

abbrev pub decreases-list-loop-here : goal.decreases-list-loop-here
decreases-list-loop-here l = left (tokens_of l.parser) l.here.at

abbrev pub decreases-member : goal.decreases-member
decreases-member l = 20 * l.room + 6

abbrev pub decreases-member_list : goal.decreases-member_list
decreases-member_list l = 20 * l.room + 7

abbrev pub invariant-member_list-loop-kind : goal.invariant-member_list-loop-kind
invariant-member_list-loop-kind l = Reading (tokens_of l.parser) (members_in (tokens_of l.parser) (model_of l.parser) l.room l.first) (members_in (tokens_of l.parser) (model_of l.parser) l.room l.first) l.initial.here l.initial.w l.initial.d l.initial.v l.here l.w l.d l.v

abbrev pub decreases-member_list-loop-kind : goal.decreases-member_list-loop-kind
decreases-member_list-loop-kind l = left (tokens_of l.parser) l.here.at

abbrev pub decreases-one_member : goal.decreases-one_member
decreases-one_member l = 20 * l.room + 3

abbrev pub decreases-parameter : goal.decreases-parameter
decreases-parameter l = 20 * l.room + 5

abbrev pub decreases-parameters : goal.decreases-parameters
decreases-parameters l = 20 * l.room + 7

abbrev pub decreases-specifiers : goal.decreases-specifiers
decreases-specifiers l = 20 * l.room + 4

abbrev pub invariant-specifiers-loop-kind : goal.invariant-specifiers-loop-kind
invariant-specifiers-loop-kind l = Specifying (tokens_of l.parser) (model_of l.parser) l.room l.initial.here l.initial.w l.initial.d l.initial.v (said l.p) l.here l.w l.d l.v

abbrev pub decreases-specifiers-loop-kind : goal.decreases-specifiers-loop-kind
decreases-specifiers-loop-kind l = left (tokens_of l.parser) l.here.at

abbrev pub decreases-suffix : goal.decreases-suffix
decreases-suffix l = 20 * l.room + 8

abbrev pub decreases-suffixes : goal.decreases-suffixes
decreases-suffixes l = 20 * l.room + 9

abbrev pub invariant-suffixes-loop-kind : goal.invariant-suffixes-loop-kind
invariant-suffixes-loop-kind l = Suffixing (kind_numbers l.parser.tokens.kinds.now) l.parser.tokens.numbers.now (model_of l.parser) l.room l.name l.initial.here l.initial.t l.initial.w l.initial.d l.initial.v l.here l.t l.w l.d l.v

abbrev pub decreases-suffixes-loop-kind : goal.decreases-suffixes-loop-kind
decreases-suffixes-loop-kind l = left (tokens_of l.parser) l.here.at

abbrev pub decreases-tag_type : goal.decreases-tag_type
decreases-tag_type l = 20 * l.room + 1

abbrev pub decreases-type_row : goal.decreases-type_row
decreases-type_row l = 20 * l.room + 3

abbrev pub decreases-with_tag : goal.decreases-with_tag
decreases-with_tag l = 20 * l.room + 9

abbrev pub decreases-without_tag : goal.decreases-without_tag
decreases-without_tag l = 20 * l.room + 9
