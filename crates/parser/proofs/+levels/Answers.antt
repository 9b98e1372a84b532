use Prim.Native.Nat.{ℕ}
use borrow.Author.Rules.{rules}
use native.Mathlib.Omega.{arith}
use Rattle.table.proofs.Shown.{held_at, step-on, next, exit, held_next}
use Rattle.table.proofs.Steps.{there, is+, is-}
use Rattle.parser.specs.Pieces.{after_type}
use mathlib.Core.Path.{refl, ap}
use Rattle.table.proofs.Shown.{call, refuse, held_on}
use Rattle.parser.proofs.Composites.{from_first}
use mathlib.Core.Path.{refl}
use Rattle.table.proofs.Branch.{by, yes!, nay! }
use Rattle.table.proofs.Shown.{no!, held_at, step-on}
use Rattle.definition.specs.Composite.{composite₁}
use Rattle.enumerators.proofs.Naming.{no_name_lem, a-name, inside}
use Rattle.parser.proofs.Composites.{no_level, a-level, tagged}
use Rattle.table.proofs.Branch.{by}
use Rattle.table.proofs.Shown.{no!, held}
use Rattle.parser.proofs.Declaring.{stops, no_declarator, stars_starting, stars-stop, stars-held, unstarred, direct-stop, stars_wait, direct-done}
use native.Mathlib.Nat.{lt_of_lt_of_le}
use mathlib.Core.Path.{refl, sym, ap, ◌∙◌}
use Rattle.encoding.specs.Kinds.{kind_number, kind_numbers}
use Rattle.parser.specs.Parsing.{tokens_of, model_of, levels_of}
use Rattle.table.proofs.Rounds.{starts-at, turn}
use Rattle.table.proofs.Shown.{got-at, no!, call, fail, held, held_at, held_on}
use Rattle.table.proofs.Steps.{there, is+, is-, ate, missed}
use Rattle.definition.specs.Composite.{member_declarators}
use Rattle.definition.specs.Token.{left}
use Rattle.definition_laws.proofs.Progress.{member_declarator-on, levels-on}
use Rattle.parser.specs.Pieces.{declarators_in}
use Rattle.parser.proofs.Goes.{moves-on}
use Rattle.parser.proofs.Lists.{Reading, begin, fewer, lone}
use Rattle.parser.proofs.Declaring.{starts-empty, typed-stop, declared_held, declared_few, typed-refused, typed-done}
use Rattle.parser.proofs.Plain.{a-name as plain-name, name-there, typed-plain}
use Rattle.table.proofs.Shown.{no!, held_at}
use Rattle.table.proofs.Steps.{there}
use mathlib.Core.Bool.{not}
use borrow.Author.Tests.{not-true, not-false}
use Rattle.parser.proofs.Declaring.{stops, no_direct, opens-there, by_name, by-nothing, inner-stop, not_closed_lem, closed, declared_held, declared_waits}
use Prim.Native.Nat.{ℕ, ◌<◌}
use Prim.Native.Nat.{◌+◌, ◌*◌}
use Rattle.table.proofs.Branch.{yes!, nay! }
use Rattle.table.proofs.Shown.{call, refuse, held, held_at, held_on, step-on}
use Prim.Native.Nat.{◌+◌}
use Rattle.table.specs.Held.{state, moved_to}
use Rattle.definition.specs.Declarator.{parameters_from}
use Rattle.definition_laws.proofs.Progress.{parameter-on, levels-on}
use Rattle.parameter_entries.proofs.Entries.{entered}
use Rattle.parser.specs.Answers.{typed}
use Rattle.parser.proofs.Goes.{typed-on, stays}
use Rattle.parser.proofs.Lists.{Entering, begin, enough, fewer, entry-on, one_more, one_fewer, added_parameter-stays, counted-end, counted-on}
use Rattle.table.proofs.Branch.{by, eq+, eq-}
use Rattle.table.proofs.Shown.{no!, call, refuse, held_on}
use Rattle.encoding.proofs.Numbered.{has_class, no_class}
use Rattle.definition_laws.proofs.Progress.{specifiers-on, levels-on}
use Rattle.definition_laws.proofs.TableProgress.{base_type-stays}
use Rattle.parser.proofs.Made.{declaration-made}
use Rattle.parser.proofs.Goes.{on, stays}
use Rattle.parser.proofs.Composites.{enough as member-enough}
use Rattle.table.proofs.Rounds.{starts, starts-at, turn}
use Rattle.definition.specs.Composite.{members_from}
use Rattle.definition_laws.proofs.Progress.{member_declaration-past, levels-on}
use Rattle.parser.proofs.Goes.{moves-past}
use Rattle.parser.proofs.Lists.{members_in, Reading, enough, begin, fewer, fewer-past, here-still}
use Rattle.table.proofs.Steps.{is+, is-}
use Rattle.parser.proofs.Made.{member-made}
use mathlib.Core.Path.{refl, ap, ◌∙◌}
use Rattle.parser.proofs.Made.{parameter-made}
use mathlib.Core.Path.{sym, ◌∙◌}
use Rattle.definition.specs.Declarator.{parameters as meant_parameters}
use Rattle.parser.proofs.Lists.{empty-list, from_next}
use Rattle.table.proofs.Rounds.{turn}
use Rattle.table.proofs.Shown.{got!, no!, refuse, held}
use Rattle.words.specs.Meaning.{specifiers as said}
use Rattle.parser.proofs.TypeWords.{Specifying, begin as words-begin, inside as words-inside, fewer as words-fewer, room_for, next-said, next_word, past_row, next_row, at-attribute, at_mark, at_word_twice, at_tag_twice, at_name, at_row}
use mathlib.Core.Option.{none, some}
use Rattle.table.proofs.Branch.{eq+, eq-}
use Rattle.table.proofs.Shown.{call, refuse}
use Rattle.parser.specs.Pieces.{suffix_step}
use Rattle.parser.proofs.Declaring.{got_as}
use Rattle.lemmas.specs.Options.{option}
use Rattle.definition.specs.Grammar.{array_step}
use Rattle.table.proofs.Shown.{held, held_at}
use mathlib.Core.Logic.{⊎_elim, inl, inr}
use Rattle.declarator_heads.proofs.Rounds.{has_room}
use Rattle.parser.proofs.Declaring.{Suffixing, begin as suffixes-begin, ended, suffix-there, full, suffix-stop, fewer as suffixes-fewer, again}
use Rattle.definition.specs.Specifiers.{tagged_type}
use Rattle.table.proofs.Shown.{got-at, call, fail, held_at, step-on}
use Rattle.parser.proofs.TypeWords.{by-tag, by_name as words-by_name, past-name}
use Rattle.table.proofs.Shown.{got!, call, fail, refuse, held_at, held_on, step-on}
use Rattle.definition.specs.Composite.{tagged_composite, define_body}
use Rattle.member_entries.specs.Ended.{laid}
use Rattle.table.proofs.Shown.{no!, call, refuse, held_at, held_on, step-on}
use Rattle.definition.specs.Composite.{untagged_composite}
use Rattle.parser.proofs.Composites.{first_fits}
use Rattle.parser.proofs.+levels.Goals as goal
use Rattle.declarator_steps.specs.Pending.{step_of}
use Rattle.table.specs.Reply.{reply, reply_by, reply_alone}
use Rattle.std.specs.Result.{result_from_control_flow}
use Rattle.parser.proofs.+levels.Goals.{suffixes-else-ne-via-then-ne+else-ne-2, suffixes-else-ne-via-else-ne}
use mathlib.Core.List.{[]}
use Rattle.std.proofs.lemmas.List.{length-map}
use Rattle.encoding.proofs.TokenKinds.{is_kind, no_kind, is_kind!, no_kind!, same_kind}
use Rattle.encoding.specs.declared.token_kinds.TokenKind.TheVariants.{Attribute, CloseBrace, CloseParen, Colon, Comma, Ellipsis, End, EnumWord, OpenBrace, OpenBracket, OpenParen, Semicolon, UnionWord}

pub after_type-overflow_add-i : goal.after_type-overflow_add-i
after_type-overflow_add-i t c = omega (arith, there c.kind.ensures (is_kind c.kind.result Semicolon c.eq.ensures c.if-eq.true), c.args.parser.now.few)

pub after_type-anonymous_member-requires : goal.after_type-anonymous_member-requires
after_type-anonymous_member-requires t c = (held_at c.moved.ensures c.requires.held, c.requires.first_le_max_members)

pub after_type-returns-then-eq : goal.after_type-returns-then-eq
unfolding after_type
after_type-returns-then-eq t c = record { rounds = λ f p. record { run = λ t₁ h. is+ _ _ c.kind.ensures (is_kind c.kind.result Semicolon c.eq.ensures c.if-eq.true) (step-on c.moved.ensures (c.anonymous_member.ensures _ _ _) h) } }

pub after_type-declarators-requires : goal.after_type-declarators-requires
after_type-declarators-requires t c = (omega (arith, c.decreases), (c.requires.held, c.requires.first_le_max_members))

pub after_type-returns : goal.after_type-returns
unfolding after_type
after_type-returns t c = record { rounds = λ f p. record { run = λ t₁ h. is- _ _ c.kind.ensures (no_kind c.kind.result Semicolon c.eq.ensures c.if-eq.false) ((c.declarators.ensures.rounds f p).run t₁ h) } }

pub body-overflow_cast-first : goal.body-overflow_cast-first
body-overflow_cast-first t c = omega (arith, c.requires.room.members)

pub body-member_list-requires : goal.body-member_list-requires
body-member_list-requires t c = (omega (arith, c.decreases), (c.requires, (c.requires.room.members)))

pub body-close_body-requires : goal.body-close_body-requires
body-close_body-requires t c = let h = held_next c.in_ok-e.ensures c.requires in (h.long.words, h.long.wides, h.room)

pub body-returns : goal.body-returns
body-returns t c = record { run = λ t₁ h. from_first _ _ _ _ _ _ h.counts.members (next _ (c.in_ok-e.ensures.run t₁ h) (λ t₂ h₂. (c.close_body.ensures.with _).run t₂ h₂)) }

pub body-returns-in_err-e : goal.body-returns-in_err-e
body-returns-in_err-e t c = record { run = λ t₁ h. from_first _ _ _ _ _ _ h.counts.members (exit (reply_by laid) _ (c.in_err-e.ensures.run t₁ h) c.from_residual.ensures.1 refl) }

pub composite-returns-then-room-eq0 : goal.composite-returns-then-room-eq0
composite-returns-then-room-eq0 t c = record { run = λ t₁ h. by (no_level _ _ _ _ c.if-room-eq0.true) (no! h refl) }

pub composite-without_tag-requires : goal.composite-without_tag-requires
composite-without_tag-requires t c = (omega (arith, c.decreases, c.if-room-eq0.false), c.requires)

pub composite-returns-then-not-is_name : goal.composite-returns-then-not-is_name
unfolding composite₁
composite-returns-then-not-is_name t c = record { run = λ t₁ h. by (a-level _ _ _ _ c.if-room-eq0.false) (nay! _ _ _ (no_name_lem c.kind.ensures c.is_name.ensures c.if-not-is_name.true-raw) (c.without_tag.ensures.run t₁ h)) }

pub composite-name-name-requires : goal.composite-name-name-requires
composite-name-name-requires t c = (a-name c.kind.ensures c.is_name.ensures c.if-not-is_name.false-raw)

pub composite-overflow_add-at : goal.composite-overflow_add-at
composite-overflow_add-at t c = omega (arith, inside c.args.parser.now.tokens.kinds.now c.kind.ensures c.is_name.ensures c.if-not-is_name.false-raw, c.args.parser.now.few, length-map c.args.parser.now.tokens.kinds.now kind_number)

pub composite-with_tag-requires : goal.composite-with_tag-requires
composite-with_tag-requires t c = (omega (arith, c.decreases, c.if-room-eq0.false), (held_at c.moved.ensures c.requires))

pub composite-returns : goal.composite-returns
unfolding composite₁
composite-returns t c = record { run = λ t₁ h. by (a-level _ _ _ _ c.if-room-eq0.false) (yes! _ _ _ (a-name c.kind.ensures c.is_name.ensures c.if-not-is_name.false-raw) (tagged _ _ _ _ _ c.name-name.ensures (step-on c.moved.ensures c.with_tag.ensures h))) }

pub declarator-returns-then-room-eq0 : goal.declarator-returns-then-room-eq0
declarator-returns-then-room-eq0 t c = stops _ (ap (λ x. x.answer) c.refused.ensures) (λ b h. by (no_declarator _ _ _ _ c.if-room-eq0.true) (no! h refl))

pub declarator-stars-t-requires : goal.declarator-stars-t-requires
declarator-stars-t-requires t c = omega (arith, c.requires.starting.waiting.apart)

pub declarator-returns-in-Err : goal.declarator-returns-in-Err
declarator-returns-in-Err t c = stars-stop _ _ _ _ _ _ _ c.requires.starting c.if-room-eq0.false c.stars-t.ensures _ c.in-Err.is (ap (λ x. x.answer) c.refused-in-Err.ensures)

pub declarator-overflow_sub-room : goal.declarator-overflow_sub-room
declarator-overflow_sub-room t c = omega (arith, c.if-room-eq0.false)

pub declarator-direct-r-requires : goal.declarator-direct-r-requires
declarator-direct-r-requires t c = (omega (arith, c.decreases, c.if-room-eq0.false), (stars-held c.stars-t.ensures c.in-Ok.is c.requires.held, (stars_starting c.requires.starting c.stars-t.ensures)))

pub declarator-returns-then-all-used : goal.declarator-returns-then-all-used
declarator-returns-then-all-used t c = unstarred _ _ _ _ _ _ _ c.requires.starting c.if-room-eq0.false c.stars-t.ensures c.in-Ok.is c.direct-r.ensures c.if-all-used.true

pub declarator-returns-in_default : goal.declarator-returns-in_default
declarator-returns-in_default t c = direct-stop _ _ _ _ _ _ _ c.requires.starting c.if-room-eq0.false c.stars-t.ensures c.in-Ok.is c.direct-r.ensures _ c.in_default.is

pub declarator-overflow_sub-all : goal.declarator-overflow_sub-all
declarator-overflow_sub-all t c = omega (arith, c.stars-t.ensures.holds.held)

pub declarator-release_stars-requires : goal.declarator-release_stars-requires
declarator-release_stars-requires t c = stars_wait _ _ _ _ _ _ _ c.requires.starting c.if-room-eq0.false c.stars-t.ensures c.in-Ok.is c.direct-r.ensures c.in-Ok-answer.is

pub declarator-returns : goal.declarator-returns
declarator-returns t c = direct-done _ _ _ _ _ _ _ c.requires.starting c.if-room-eq0.false c.stars-t.ensures c.in-Ok.is c.direct-r.ensures c.in-Ok-answer.is _ c.release_stars.ensures c.in-Ok-answer.is refl

pub declarators-loop-e-init : goal.declarators-loop-e-init
declarators-loop-e-init t c = begin c.requires.held

pub declarators-one_member-requires : goal.declarators-one_member-requires
declarators-one_member-requires t c = (omega (arith, c.decreases), (c.loop-e.invariant.held, c.requires.first_le_max_members))

pub declarators-returns-in_err-e : goal.declarators-returns-in_err-e
unfolding member_declarators
declarators-returns-in_err-e t c = record { rounds = λ n p. record { run = λ t₁ h. turn (c.loop-e.invariant.going n p t₁ h) (λ t₂ f l h₂. exit reply_alone _ (c.in_err-e.ensures.run t₂ h₂) c.from_residual.ensures.1 refl) } }

pub declarators-returns-then-ne : goal.declarators-returns-then-ne
unfolding member_declarators
declarators-returns-then-ne t c = record { rounds = λ n p. record { run = λ t₁ h. turn (c.loop-e.invariant.going n p t₁ h) (λ t₂ f l h₂. next _ (c.in_ok-e.ensures.run t₂ h₂) (λ t₃ h₃. is- _ _ c.kind.ensures (no_kind! c.kind.result Comma c.ne.ensures c.if-ne.true) ((c.past.ensures.with _ _ _ _).run t₃ h₃))) } }

pub declarators-overflow_add-at : goal.declarators-overflow_add-at
declarators-overflow_add-at t c = omega (arith, c.args.parser.now.few, there c.kind.ensures (is_kind! c.kind.result Comma c.ne.ensures c.if-ne.false))

pub declarators-loop-e-smaller : goal.declarators-loop-e-smaller
declarators-loop-e-smaller t c = fewer _ _ c.moved-here.ensures (moves-on c.in_ok-e.ensures c.loop-e.invariant.held refl (member_declarator-on _ _ _ (levels-on _ _ _) _ _)) (there c.kind.ensures (is_kind! c.kind.result Comma c.ne.ensures c.if-ne.false))

pub declarators-loop-e-preserved : goal.declarators-loop-e-preserved
unfolding member_declarators
declarators-loop-e-preserved t c = record {
  held = held_at c.moved-here.ensures (held_next c.in_ok-e.ensures c.loop-e.invariant.held);
  going = λ n p t₁ h. turn (c.loop-e.invariant.going n p t₁ h) (λ t₂ f l h₂. next _ (c.in_ok-e.ensures.run t₂ h₂) (λ t₃ h₃. is+ _ _ c.kind.ensures (is_kind! c.kind.result Comma c.ne.ensures c.if-ne.false)
      (starts-at c.moved-here.ensures h₃ (lt_of_lt_of_le (fewer _ _ c.moved-here.ensures (moves-on c.in_ok-e.ensures c.loop-e.invariant.held refl (member_declarator-on _ _ _ (levels-on _ _ _) _ _)) (there c.kind.ensures (is_kind! c.kind.result Comma c.ne.ensures c.if-ne.false))) l))));
}

pub declared_type-overflow_add-at : goal.declared_type-overflow_add-at
declared_type-overflow_add-at t c = omega (arith, name-there _ _ (sym c.is_plain.ensures ∙ c.if-is_plain.true))

pub declared_type-name-name-requires : goal.declared_type-name-name-requires
declared_type-name-name-requires t c = (plain-name _ _ (sym c.is_plain.ensures ∙ c.if-is_plain.true))

pub declared_type-returns-then-room-ge-NAME_LEVELS : goal.declared_type-returns-then-room-ge-NAME_LEVELS
declared_type-returns-then-room-ge-NAME_LEVELS t c = typed-plain _ _ _ _ _ _ c.if-room-ge-NAME_LEVELS.true (sym c.is_plain.ensures ∙ c.if-is_plain.true) c.name-name.ensures c.moved.ensures

pub declared_type-pointer_type-requires : goal.declared_type-pointer_type-requires
declared_type-pointer_type-requires t c = record { held = c.requires; at_value = sym c.is_plain_pointer.ensures ∙ c.if-is_plain_pointer.true }

pub declared_type-returns-then-room-ge-NAME_LEVELS-2 : goal.declared_type-returns-then-room-ge-NAME_LEVELS-2
declared_type-returns-then-room-ge-NAME_LEVELS-2 t c = c.pointer_type.ensures.of _ _ c.if-room-ge-NAME_LEVELS-2.true

pub declared_type-stepped_type-requires : goal.declared_type-stepped_type-requires
declared_type-stepped_type-requires t c = (omega (arith, c.decreases), c.requires)

pub stepped_type-declarator-r-requires : goal.stepped_type-declarator-r-requires
stepped_type-declarator-r-requires t c = (omega (arith, c.decreases), (c.requires, (starts-empty _ c.empty.ensures.kept)))

pub stepped_type-apply-requires : goal.stepped_type-apply-requires
stepped_type-apply-requires t c = (declared_held c.declarator-r.ensures (c.branch-e.ensures ∙ ap result_from_control_flow c.in_ok-e.is) c.requires, declared_few c.declarator-r.ensures (c.branch-e.ensures ∙ ap result_from_control_flow c.in_ok-e.is))

pub stepped_type-returns : goal.stepped_type-returns
stepped_type-returns t c = typed-done _ _ c.empty.ensures.kept c.declarator-r.ensures (c.branch-e.ensures ∙ ap result_from_control_flow c.in_ok-e.is) c.in_ok-f.ensures

pub stepped_type-returns-in_err-f : goal.stepped_type-returns-in_err-f
stepped_type-returns-in_err-f t c = typed-refused _ _ c.empty.ensures.kept c.declarator-r.ensures (c.branch-e.ensures ∙ ap result_from_control_flow c.in_ok-e.is) _ _ c.in_err-f.ensures c.from_residual-in_err-f.ensures.1

pub stepped_type-returns-in_err-e : goal.stepped_type-returns-in_err-e
stepped_type-returns-in_err-e t c = typed-stop _ _ c.empty.ensures.kept c.declarator-r.ensures _ _ (c.branch-e.ensures ∙ ap result_from_control_flow c.in_err-e.is) c.from_residual.ensures.1

pub direct-returns-then-room-eq0 : goal.direct-returns-then-room-eq0
direct-returns-then-room-eq0 t c = stops _ (ap (λ x. x.answer) c.refused.ensures) (λ b h. by (no_direct _ _ _ _ c.if-room-eq0.true) (no! h refl))

pub direct-overflow_sub-inner : goal.direct-overflow_sub-inner
direct-overflow_sub-inner t c = omega (arith, c.if-room-eq0.false)

pub direct-name-name-requires : goal.direct-name-name-requires
direct-name-name-requires t c = (a-name c.kind.ensures c.is_name.ensures (ap not c.if-is_name.true))

pub direct-overflow_add-at : goal.direct-overflow_add-at
direct-overflow_add-at t c = omega (arith, c.args.parser.now.few, length-map c.args.parser.now.tokens.kinds.now kind_number, inside c.args.parser.now.tokens.kinds.now c.kind.ensures c.is_name.ensures (ap not c.if-is_name.true))

pub direct-suffixes-requires : goal.direct-suffixes-requires
direct-suffixes-requires t c = (omega (arith, c.decreases, c.if-room-eq0.false), (held_at c.moved.ensures c.requires.held, (c.requires.starting.waiting)))

pub direct-returns-then-is_name : goal.direct-returns-then-is_name
direct-returns-then-is_name t c = by_name _ _ _ _ c.requires.starting c.if-room-eq0.false (a-name c.kind.ensures c.is_name.ensures (ap not c.if-is_name.true)) c.name-name.ensures c.moved.ensures c.suffixes.ensures

pub direct-opens_declarator-requires : goal.direct-opens_declarator-requires
direct-opens_declarator-requires t c = c.requires.held.room

pub direct-suffixes-requires-then-not-opens_declarator : goal.direct-suffixes-requires-then-not-opens_declarator
direct-suffixes-requires-then-not-opens_declarator t c = (omega (arith, c.decreases, c.if-room-eq0.false), (c.requires.held, (c.requires.starting.waiting)))

pub direct-returns-then-not-opens_declarator : goal.direct-returns-then-not-opens_declarator
direct-returns-then-not-opens_declarator t c = by-nothing _ _ _ _ c.requires.starting c.if-room-eq0.false (no_name_lem c.kind.ensures c.is_name.ensures (ap not c.if-is_name.false)) c.opens_declarator.ensures (not-true _ c.if-not-opens_declarator.true-raw) c.suffixes-then-not-opens_declarator.ensures

pub direct-overflow_add-at-2 : goal.direct-overflow_add-at-2
direct-overflow_add-at-2 t c = omega (arith, c.args.parser.now.few, opens-there _ _ _ (sym (c.opens_declarator.ensures.of _ c.requires.held.encodes.words c.requires.held.encodes.index c.requires.held.encodes.counts) ∙ not-false _ c.if-not-opens_declarator.false-raw))

pub direct-declarator-r-requires : goal.direct-declarator-r-requires
direct-declarator-r-requires t c = (omega (arith, c.decreases, c.if-room-eq0.false), (held_at c.moved-2.ensures c.requires.held, (c.requires.starting)))

pub direct-returns-in_default : goal.direct-returns-in_default
direct-returns-in_default t c = inner-stop _ _ _ _ c.requires.starting c.if-room-eq0.false (no_name_lem c.kind.ensures c.is_name.ensures (ap not c.if-is_name.false)) c.opens_declarator.ensures (not-false _ c.if-not-opens_declarator.false-raw) c.moved-2.ensures c.declarator-r.ensures _ c.in_default.is

pub direct-returns-in-Err : goal.direct-returns-in-Err
direct-returns-in-Err t c = not_closed_lem _ _ _ _ c.requires.starting c.if-room-eq0.false (no_name_lem c.kind.ensures c.is_name.ensures (ap not c.if-is_name.false)) c.opens_declarator.ensures (not-false _ c.if-not-opens_declarator.false-raw) c.moved-2.ensures c.declarator-r.ensures c.in-Ok.is _ c.in-Err.ensures (ap (λ x. x.answer) c.refused-in-Err.ensures)

pub direct-suffixes-requires-2 : goal.direct-suffixes-requires-2
direct-suffixes-requires-2 t c = (omega (arith, c.decreases, c.if-room-eq0.false), (held_next (c.in-Ok-past.ensures.with [] _ _ _) (declared_held c.declarator-r.ensures c.in-Ok.is (held_at c.moved-2.ensures c.requires.held)), (declared_waits c.declarator-r.ensures c.in-Ok.is)))

pub direct-returns : goal.direct-returns
direct-returns t c = closed _ _ _ _ c.requires.starting c.if-room-eq0.false (no_name_lem c.kind.ensures c.is_name.ensures (ap not c.if-is_name.false)) c.opens_declarator.ensures (not-false _ c.if-not-opens_declarator.false-raw) c.moved-2.ensures c.declarator-r.ensures c.in-Ok.is c.in-Ok-past.ensures c.suffixes-2.ensures

pub list-loop-here-init : goal.list-loop-here-init
list-loop-here-init t c = record { reading = begin c.requires.held; passed = omega arith; few = omega arith }

pub list-overflow_add-at : goal.list-overflow_add-at
list-overflow_add-at t c = omega (arith, c.args.parser.now.few, there c.kind.ensures (is_kind c.kind.result Ellipsis c.eq.ensures c.if-eq.true))

pub list-returns-then-eq : goal.list-returns-then-eq
unfolding parameters_from
list-returns-then-eq t c = record { run = λ t₁ h. turn (c.loop-here.invariant.reading.going _ (enough _) t₁ h) (λ t₂ f l h₂. is+ _ _ c.kind.ensures (is_kind c.kind.result Ellipsis c.eq.ensures c.if-eq.true) (step-on c.moved.ensures (c.parameters_end.ensures.with c.args.parser.now.tokens.numbers.now (model_of c.args.parser.now) (levels_of c.args.parser.now c.args.room) _ _ _) h₂)) }

pub list-parameter-requires : goal.list-parameter-requires
list-parameter-requires t c = (omega (arith, c.decreases), (c.loop-here.invariant.reading.held))

pub list-returns-in_err-e : goal.list-returns-in_err-e
unfolding parameters_from
list-returns-in_err-e t c = record { run = λ t₁ h. turn (c.loop-here.invariant.reading.going _ (enough _) t₁ h) (λ t₂ f l h₂. is- _ _ c.kind.ensures (no_kind c.kind.result Ellipsis c.eq.ensures c.if-eq.false) (exit (reply_by step_of) _ (c.in_err-e.ensures.run t₂ h₂) c.from_residual.ensures.1 refl)) }

pub list-returns-then-is_void_list : goal.list-returns-then-is_void_list
unfolding parameters_from
list-returns-then-is_void_list t c = record {
  run = λ t₁ h. turn (c.loop-here.invariant.reading.going _ (enough _) t₁ h) (λ t₂ f l h₂. is- _ _ c.kind.ensures (no_kind c.kind.result Ellipsis c.eq.ensures c.if-eq.false) (next _ (c.in_ok-e.ensures.run t₂ h₂)
      (λ t₃ h₃. yes! _ _ _ (sym (c.is_void_list.ensures.of _ t₃) ∙ c.if-is_void_list.true) ((c.parameters_end-then-is_void_list.ensures.with c.args.parser.now.tokens.numbers.now (model_of c.args.parser.now) (levels_of c.args.parser.now c.args.room) _ _ _).run t₃ h₃))));
}

pub list-add_parameter-requires : goal.list-add_parameter-requires
list-add_parameter-requires t c = record { held = held_next c.in_ok-e.ensures c.loop-here.invariant.reading.held; first_le_max_parameters = c.requires.first_le_max_parameters }

pub list-returns-in_err-f : goal.list-returns-in_err-f
unfolding parameters_from
list-returns-in_err-f t c = record {
  run = λ t₁ h. turn (c.loop-here.invariant.reading.going _ (enough _) t₁ h) (λ t₂ f l h₂. is- _ _ c.kind.ensures (no_kind c.kind.result Ellipsis c.eq.ensures c.if-eq.false) (next _ (c.in_ok-e.ensures.run t₂ h₂)
      (λ t₃ h₃. nay! _ _ _ (sym (c.is_void_list.ensures.of _ t₃) ∙ c.if-is_void_list.false) (entered _ _ _ _ _ _ (exit (reply_by step_of) _ (c.in_err-f.ensures.run t₃ h₃) c.from_residual-in_err-f.ensures.1 refl)))));
}

pub list-overflow_add-n : goal.list-overflow_add-n
list-overflow_add-n t c = omega (arith, c.loop-here.invariant.few, c.args.parser.now.few)

pub list-returns-then-ne : goal.list-returns-then-ne
unfolding parameters_from
list-returns-then-ne t c = record {
  run = λ t₁ h. turn (c.loop-here.invariant.reading.going _ (enough _) t₁ h) (λ t₂ f l h₂. is- _ _ c.kind.ensures (no_kind c.kind.result Ellipsis c.eq.ensures c.if-eq.false) (next _ (c.in_ok-e.ensures.run t₂ h₂)
      (λ t₃ h₃. nay! _ _ _ (sym (c.is_void_list.ensures.of _ t₃) ∙ c.if-is_void_list.false) (entered _ _ _ _ _ _ (next _ (c.in_ok-f.ensures.run t₃ h₃) (λ t₄ h₄. is- _ _ c.kind-in-loop-here.ensures (no_kind! c.kind-in-loop-here.result Comma c.ne.ensures c.if-ne.true) (counted-end _ _ _ _ _ _ _ ((c.parameters_end-then-ne.ensures.with c.args.parser.now.tokens.numbers.now (model_of c.args.parser.now) (levels_of c.args.parser.now c.args.room) _ _ _).run t₄ h₄))))))));
}

pub list-overflow_add-i : goal.list-overflow_add-i
list-overflow_add-i t c = omega (arith, c.args.parser.now.few, there c.kind-in-loop-here.ensures (is_kind! c.kind-in-loop-here.result Comma c.ne.ensures c.if-ne.false))

pub list-loop-here-smaller : goal.list-loop-here-smaller
list-loop-here-smaller t c = (fewer _ _ c.moved-here.ensures (entry-on (typed-on c.in_ok-e.ensures c.loop-here.invariant.reading.held refl (parameter-on _ _ _ (levels-on _ _ _))) (stays c.in_ok-f.ensures (held_next c.in_ok-e.ensures c.loop-here.invariant.reading.held) refl (added_parameter-stays _ _ _ _))) (there c.kind-in-loop-here.ensures (is_kind! c.kind-in-loop-here.result Comma c.ne.ensures c.if-ne.false)))

pub list-loop-here-preserved : goal.list-loop-here-preserved
unfolding parameters_from
list-loop-here-preserved t c = record {
  reading = record {
    held = held_at c.moved-here.ensures (held_next c.in_ok-f.ensures (held_next c.in_ok-e.ensures c.loop-here.invariant.reading.held));
    going = λ k p t₁ h. turn (c.loop-here.invariant.reading.going k p t₁ h) (λ t₂ f l h₂. is- _ _ c.kind.ensures (no_kind c.kind.result Ellipsis c.eq.ensures c.if-eq.false) (next _ (c.in_ok-e.ensures.run t₂ h₂)
        (λ t₃ h₃. nay! _ _ _ (sym (c.is_void_list.ensures.of _ t₃) ∙ c.if-is_void_list.false) (entered _ _ _ _ _ _ (next _ (c.in_ok-f.ensures.run t₃ h₃) (λ t₄ h₄. is+ _ _ c.kind-in-loop-here.ensures (is_kind! c.kind-in-loop-here.result Comma c.ne.ensures c.if-ne.false) (counted-on (tokens_of c.args.parser.now) (model_of c.args.parser.now) (levels_of c.args.parser.now c.args.room) c.args.first c.loop-here.n (state (moved_to c.in_ok-f.f (c.in_ok-f.f.at + 1)) t₄) f (starts-at c.moved-here.ensures h₄ (lt_of_lt_of_le (fewer _ _ c.moved-here.ensures (entry-on (typed-on c.in_ok-e.ensures c.loop-here.invariant.reading.held refl (parameter-on _ _ _ (levels-on _ _ _))) (stays c.in_ok-f.ensures (held_next c.in_ok-e.ensures c.loop-here.invariant.reading.held) refl (added_parameter-stays _ _ _ _))) (there c.kind-in-loop-here.ensures (is_kind! c.kind-in-loop-here.result Comma c.ne.ensures c.if-ne.false))) l)))))))));
  };
  passed = one_more c.moved-here.ensures c.loop-here.invariant.passed (entry-on (typed-on c.in_ok-e.ensures c.loop-here.invariant.reading.held refl (parameter-on _ _ _ (levels-on _ _ _))) (stays c.in_ok-f.ensures (held_next c.in_ok-e.ensures c.loop-here.invariant.reading.held) refl (added_parameter-stays _ _ _ _)));
  few = one_fewer c.loop-here.invariant.passed (entry-on (typed-on c.in_ok-e.ensures c.loop-here.invariant.reading.held refl (parameter-on _ _ _ (levels-on _ _ _))) (stays c.in_ok-f.ensures (held_next c.in_ok-e.ensures c.loop-here.invariant.reading.held) refl (added_parameter-stays _ _ _ _))) (there c.kind-in-loop-here.ensures (is_kind! c.kind-in-loop-here.result Comma c.ne.ensures c.if-ne.false));
}

pub member-specifiers-requires : goal.member-specifiers-requires
member-specifiers-requires t c = (omega (arith, c.decreases), c.requires.held)

pub member-returns-then-ne : goal.member-returns-then-ne
member-returns-then-ne t c = record { run = λ t₁ h. by (declaration-made _ _ _ _ _) (next _ (c.in_ok-e.ensures.run t₁ h) (λ t₂ h₂. eq- _ _ _ _ (has_class _ c.if-ne.ensures) (no! h₂ refl))) }

pub member-base_type-requires : goal.member-base_type-requires
member-base_type-requires t c = held_next c.in_ok-e.ensures c.requires.held

pub member-after_type-requires : goal.member-after_type-requires
member-after_type-requires t c = (omega (arith, c.decreases), (held_next c.in_ok-f.ensures (held_next c.in_ok-e.ensures c.requires.held), c.requires.first_le_max_members))

pub member-returns : goal.member-returns
member-returns t c = let a = held_next c.in_ok-e.ensures c.requires.held in
    let far = member-enough (tokens_of c.args.parser.now) (on c.in_ok-e.ensures c.requires.held refl (specifiers-on _ _ _ (levels-on _ _ _))) (stays c.in_ok-f.ensures a refl (λ s. base_type-stays s _ _ _)) in
    record {
      run = λ t₁ h. by (declaration-made _ _ _ _ _) (next _ (c.in_ok-e.ensures.run t₁ h) (λ t₂ h₂. eq+ _ _ _ _ (no_class _ c.if-ne.ensures)
          (next _ (c.in_ok-f.ensures.run t₂ h₂) (λ t₃ h₃. (c.after_type.ensures.rounds _ far).run t₃ h₃))));
    }

pub member-returns-in_err-f : goal.member-returns-in_err-f
member-returns-in_err-f t c = record {
  run = λ t₁ h. by (declaration-made _ _ _ _ _) (next _ (c.in_ok-e.ensures.run t₁ h) (λ t₂ h₂. eq+ _ _ _ _ (no_class _ c.if-ne.ensures)
      (exit reply_alone _ (c.in_err-f.ensures.run t₂ h₂) c.from_residual-in_err-f.ensures.1 refl)));
}

pub member-returns-in_err-e : goal.member-returns-in_err-e
member-returns-in_err-e t c = record { run = λ t₁ h. by (declaration-made _ _ _ _ _) (exit reply_alone _ (c.in_err-e.ensures.run t₁ h) c.from_residual.ensures.1 refl) }

pub member_list-loop-kind-init : goal.member_list-loop-kind-init
member_list-loop-kind-init t c = begin c.requires.held

pub member_list-overflow_add-at : goal.member_list-overflow_add-at
member_list-overflow_add-at t c = omega (arith, c.args.parser.now.few, there c.kind-kind.ensures (is_kind c.kind-kind.result CloseBrace c.eq.ensures c.if-eq.true))

pub member_list-returns-then-eq : goal.member_list-returns-then-eq
unfolding members_from
member_list-returns-then-eq t c = record { run = λ t₁ h. turn (c.loop-kind.invariant.going _ (enough _) t₁ h) (λ t₂ f l h₂. is+ _ _ c.kind-kind.ensures (is_kind c.kind-kind.result CloseBrace c.eq.ensures c.if-eq.true) (got-at c.moved.ensures h₂)) }

pub member_list-returns-then-eq-2 : goal.member_list-returns-then-eq-2
unfolding members_from
member_list-returns-then-eq-2 t c = record { run = λ t₁ h. turn (c.loop-kind.invariant.going _ (enough _) t₁ h) (λ t₂ f l h₂. is- _ _ c.kind-kind.ensures (no_kind c.kind-kind.result CloseBrace c.eq.ensures c.if-eq.false) (is+ _ _ c.kind-kind.ensures (is_kind c.kind-kind.result End c.eq-in-loop-kind.ensures c.if-eq-2.true) (no! h₂ refl))) }

pub member_list-overflow_add-at-then-eq-3 : goal.member_list-overflow_add-at-then-eq-3
member_list-overflow_add-at-then-eq-3 t c = omega (arith, c.args.parser.now.few, there c.kind-kind.ensures (is_kind c.kind-kind.result Semicolon c.eq-in-loop-kind-2.ensures c.if-eq-3.true))

pub member_list-loop-kind-smaller-then-eq-3 : goal.member_list-loop-kind-smaller-then-eq-3
member_list-loop-kind-smaller-then-eq-3 t c = fewer _ _ c.moved-here.ensures (omega arith) (there c.kind-kind.ensures (is_kind c.kind-kind.result Semicolon c.eq-in-loop-kind-2.ensures c.if-eq-3.true))

pub member_list-loop-kind-preserved-then-eq-3 : goal.member_list-loop-kind-preserved-then-eq-3
unfolding members_from
member_list-loop-kind-preserved-then-eq-3 t c = record {
  held = held_at c.moved-here.ensures c.loop-kind.invariant.held;
  going = λ n p t₁ h. turn (c.loop-kind.invariant.going n p t₁ h) (λ t₂ f l h₂. is- _ _ c.kind-kind.ensures (no_kind c.kind-kind.result CloseBrace c.eq.ensures c.if-eq.false) (is- _ _ c.kind-kind.ensures (no_kind c.kind-kind.result End c.eq-in-loop-kind.ensures c.if-eq-2.false) (is+ _ _ c.kind-kind.ensures (is_kind c.kind-kind.result Semicolon c.eq-in-loop-kind-2.ensures c.if-eq-3.true)
      (starts-at c.moved-here.ensures h₂ (lt_of_lt_of_le (fewer _ _ c.moved-here.ensures (omega arith) (there c.kind-kind.ensures (is_kind c.kind-kind.result Semicolon c.eq-in-loop-kind-2.ensures c.if-eq-3.true))) l)))));
}

pub member_list-member-requires : goal.member_list-member-requires
member_list-member-requires t c = (omega (arith, c.decreases), (c.loop-kind.invariant.held, c.requires.first_le_max_members))

pub member_list-returns-in_err-e : goal.member_list-returns-in_err-e
unfolding members_from
member_list-returns-in_err-e t c = record {
  run = λ t₁ h. turn (c.loop-kind.invariant.going _ (enough _) t₁ h) (λ t₂ f l h₂. is- _ _ c.kind-kind.ensures (no_kind c.kind-kind.result CloseBrace c.eq.ensures c.if-eq.false) (is- _ _ c.kind-kind.ensures (no_kind c.kind-kind.result End c.eq-in-loop-kind.ensures c.if-eq-2.false) (is- _ _ c.kind-kind.ensures (no_kind c.kind-kind.result Semicolon c.eq-in-loop-kind-2.ensures c.if-eq-3.false)
      (exit reply_alone _ (c.in_err-e.ensures.run t₂ h₂) c.from_residual.ensures.1 refl))));
}

pub member_list-loop-kind-smaller : goal.member_list-loop-kind-smaller
member_list-loop-kind-smaller t c = fewer-past (moves-past c.in_ok-e.ensures c.loop-kind.invariant.held refl (member_declaration-past _ _ _ (levels-on _ _ _) _)) (here-still c.kind-kind.ensures (no_kind c.kind-kind.result End c.eq-in-loop-kind.ensures c.if-eq-2.false))

pub member_list-loop-kind-preserved : goal.member_list-loop-kind-preserved
unfolding members_from
member_list-loop-kind-preserved t c = record {
  held = held_next c.in_ok-e.ensures c.loop-kind.invariant.held;
  going = λ n p t₁ h. turn (c.loop-kind.invariant.going n p t₁ h) (λ t₂ f l h₂. is- _ _ c.kind-kind.ensures (no_kind c.kind-kind.result CloseBrace c.eq.ensures c.if-eq.false) (is- _ _ c.kind-kind.ensures (no_kind c.kind-kind.result End c.eq-in-loop-kind.ensures c.if-eq-2.false) (is- _ _ c.kind-kind.ensures (no_kind c.kind-kind.result Semicolon c.eq-in-loop-kind-2.ensures c.if-eq-3.false)
      (next _ (c.in_ok-e.ensures.run t₂ h₂) (λ t₃ h₃. starts h₃ (lt_of_lt_of_le (fewer-past (moves-past c.in_ok-e.ensures c.loop-kind.invariant.held refl (member_declaration-past _ _ _ (levels-on _ _ _) _)) (here-still c.kind-kind.ensures (no_kind c.kind-kind.result End c.eq-in-loop-kind.ensures c.if-eq-2.false))) l))))));
}

pub one_member-field-requires : goal.one_member-field-requires
one_member-field-requires t c = (c.requires.held, c.requires.first_le_max_members)

pub one_member-returns-then-eq : goal.one_member-returns-then-eq
one_member-returns-then-eq t c = record { run = λ t₁ h. by (member-made _ _ _ _ _ _) (is+ _ _ c.kind.ensures (is_kind c.kind.result Colon c.eq.ensures c.if-eq.true) ((c.field.ensures _).run t₁ h)) }

pub one_member-declared_type-requires : goal.one_member-declared_type-requires
one_member-declared_type-requires t c = (omega (arith, c.decreases), c.requires.held)

pub one_member-field-requires-2 : goal.one_member-field-requires-2
one_member-field-requires-2 t c = (held_next c.in_ok-e.ensures c.requires.held, c.requires.first_le_max_members)

pub one_member-returns : goal.one_member-returns
one_member-returns t c = record { run = λ t₁ h. by (member-made _ _ _ _ _ _) (is- _ _ c.kind.ensures (no_kind c.kind.result Colon c.eq.ensures c.if-eq.false) (next _ (c.in_ok-e.ensures.run t₁ h) (λ t₂ h₂. (c.field-2.ensures _).run t₂ h₂))) }

pub one_member-returns-in_err-e : goal.one_member-returns-in_err-e
one_member-returns-in_err-e t c = record { run = λ t₁ h. by (member-made _ _ _ _ _ _) (is- _ _ c.kind.ensures (no_kind c.kind.result Colon c.eq.ensures c.if-eq.false) (exit reply_alone _ (c.in_err-e.ensures.run t₁ h) c.from_residual.ensures.1 refl)) }

pub parameter-specifiers-requires : goal.parameter-specifiers-requires
parameter-specifiers-requires t c = (omega (arith, c.decreases), c.requires)

pub parameter-base_type-requires : goal.parameter-base_type-requires
parameter-base_type-requires t c = held_next c.in_ok-e.ensures c.requires

pub parameter-declared_type-requires : goal.parameter-declared_type-requires
parameter-declared_type-requires t c = (omega (arith, c.decreases), (held_next c.in_ok-f.ensures (held_next c.in_ok-e.ensures c.requires)))

pub parameter-returns : goal.parameter-returns
parameter-returns t c = record { run = λ t₁ h. by (parameter-made _ _ _ _) (next _ (c.in_ok-e.ensures.run t₁ h) (λ t₂ h₂. next _ (c.in_ok-f.ensures.run t₂ h₂) (λ t₃ h₃. c.declared_type.ensures.run t₃ h₃))) }

pub parameter-returns-in_err-f : goal.parameter-returns-in_err-f
parameter-returns-in_err-f t c = record { run = λ t₁ h. by (parameter-made _ _ _ _) (next _ (c.in_ok-e.ensures.run t₁ h) (λ t₂ h₂. exit (reply_by typed) _ (c.in_err-f.ensures.run t₂ h₂) c.from_residual-in_err-f.ensures.1 refl)) }

pub parameter-returns-in_err-e : goal.parameter-returns-in_err-e
parameter-returns-in_err-e t c = record { run = λ t₁ h. by (parameter-made _ _ _ _) (exit (reply_by typed) _ (c.in_err-e.ensures.run t₁ h) c.from_residual.ensures.1 refl) }

pub parameters-overflow_cast-first : goal.parameters-overflow_cast-first
parameters-overflow_cast-first t c = omega (arith, c.requires.room.parameters)

pub parameters-returns-then-eq : goal.parameters-returns-then-eq
unfolding meant_parameters
parameters-returns-then-eq t c = record {
  run = λ t₁ h. is+ _ _ c.kind.ensures (is_kind c.kind.result CloseParen c.eq.ensures c.if-eq.true)
      (empty-list (tokens_of c.args.parser.now) (model_of c.args.parser.now) (levels_of c.args.parser.now c.args.room) h (sym c.kind.ensures.is ∙ (is_kind c.kind.result CloseParen c.eq.ensures c.if-eq.true))
      ((c.parameters_end.ensures.with _ _ _ _ _ _).run t₁ h));
}

pub parameters-list-requires : goal.parameters-list-requires
parameters-list-requires t c = (omega (arith, c.decreases), (c.requires, (c.requires.room.parameters)))

pub parameters-returns : goal.parameters-returns
unfolding meant_parameters
parameters-returns t c = record { run = λ t₁ h. is- _ _ c.kind.ensures (no_kind c.kind.result CloseParen c.eq.ensures c.if-eq.false) (from_next _ _ _ _ h (c.list.ensures.run t₁ h)) }

pub specifiers-loop-kind-init : goal.specifiers-loop-kind-init
specifiers-loop-kind-init t c = words-begin _ _ _ c.none-p.ensures c.requires

pub specifiers-returns-then-eq : goal.specifiers-returns-then-eq
specifiers-returns-then-eq t c = record { run = λ t₁ h. turn (c.loop-kind.invariant.going t₁ h) (λ t₂ f l h₂. at-attribute _ _ _ _ _ _ c.kind-kind.ensures (sym c.is_word.ensures ∙ not-true _ c.if-not-is_word.true-raw) (is_kind c.kind-kind.result Attribute c.eq.ensures c.if-eq.true) (no! h₂ refl)) }

pub specifiers-returns-then-not-is_word : goal.specifiers-returns-then-not-is_word
specifiers-returns-then-not-is_word t c = record { run = λ t₁ h. turn (c.loop-kind.invariant.going t₁ h) (λ t₂ f l h₂. at_mark _ _ _ _ _ _ c.kind-kind.ensures (sym c.is_word.ensures ∙ not-true _ c.if-not-is_word.true-raw) (no_kind c.kind-kind.result Attribute c.eq.ensures c.if-eq.false) (got! h₂)) }

pub specifiers-overflow_add-at : goal.specifiers-overflow_add-at
specifiers-overflow_add-at t c = omega (arith, words-inside c.kind-kind.ensures (sym c.is_word.ensures ∙ not-false _ c.if-not-is_word.false-raw), c.args.parser.now.few)

pub specifiers-loop-kind-smaller-then-says_no_type : goal.specifiers-loop-kind-smaller-then-says_no_type
specifiers-loop-kind-smaller-then-says_no_type t c = words-fewer _ c.moved-here.ensures (words-inside c.kind-kind.ensures (sym c.is_word.ensures ∙ not-false _ c.if-not-is_word.false-raw))

pub specifiers-loop-kind-preserved-then-says_no_type : goal.specifiers-loop-kind-preserved-then-says_no_type
specifiers-loop-kind-preserved-then-says_no_type t c = next-said c.loop-kind.invariant c.kind-kind.ensures (sym c.is_word.ensures ∙ not-false _ c.if-not-is_word.false-raw) (sym c.says_no_type.ensures ∙ c.if-says_no_type.true) c.with_word-p.ensures c.moved-here.ensures

pub specifiers-returns-then-has_base : goal.specifiers-returns-then-has_base
specifiers-returns-then-has_base t c = record { run = λ t₁ h. turn (c.loop-kind.invariant.going t₁ h) (λ t₂ f l h₂. at_word_twice _ _ _ _ _ _ c.kind-kind.ensures (sym c.is_word.ensures ∙ not-false _ c.if-not-is_word.false-raw) (sym c.says_no_type.ensures ∙ c.if-says_no_type.false) (sym c.is_type_word.ensures ∙ c.if-is_type_word.true) (sym c.has_base.ensures ∙ c.if-has_base.true) (no! h₂ refl)) }

pub specifiers-wording-p-requires : goal.specifiers-wording-p-requires
specifiers-wording-p-requires t c = record { at_most = room_for c.loop-kind.invariant c.kind-kind.ensures (sym c.is_word.ensures ∙ not-false _ c.if-not-is_word.false-raw) c.args.parser.now.few; kind_value = sym c.is_type_word.ensures ∙ c.if-is_type_word.true }

pub specifiers-overflow_add-at-then-is_type_word : goal.specifiers-overflow_add-at-then-is_type_word
specifiers-overflow_add-at-then-is_type_word t c = omega (arith, words-inside c.kind-kind.ensures (sym c.is_word.ensures ∙ not-false _ c.if-not-is_word.false-raw), c.args.parser.now.few)

pub specifiers-loop-kind-smaller-then-is_type_word : goal.specifiers-loop-kind-smaller-then-is_type_word
specifiers-loop-kind-smaller-then-is_type_word t c = words-fewer _ c.moved-here-then-is_type_word.ensures (words-inside c.kind-kind.ensures (sym c.is_word.ensures ∙ not-false _ c.if-not-is_word.false-raw))

pub specifiers-loop-kind-preserved-then-is_type_word : goal.specifiers-loop-kind-preserved-then-is_type_word
specifiers-loop-kind-preserved-then-is_type_word t c = next_word c.loop-kind.invariant c.kind-kind.ensures (sym c.is_word.ensures ∙ not-false _ c.if-not-is_word.false-raw) (sym c.says_no_type.ensures ∙ c.if-says_no_type.false) (sym c.is_type_word.ensures ∙ c.if-is_type_word.true) (sym c.has_base.ensures ∙ c.if-has_base.false) c.wording-p.ensures c.moved-here-then-is_type_word.ensures

pub specifiers-returns-then-is_tag_word : goal.specifiers-returns-then-is_tag_word
specifiers-returns-then-is_tag_word t c = record { run = λ t₁ h. turn (c.loop-kind.invariant.going t₁ h) (λ t₂ f l h₂. at_tag_twice _ _ _ _ _ _ c.kind-kind.ensures (sym c.is_word.ensures ∙ not-false _ c.if-not-is_word.false-raw) (sym c.says_no_type.ensures ∙ c.if-says_no_type.false) (sym c.is_type_word.ensures ∙ c.if-is_type_word.false) (sym c.is_tag_word.ensures ∙ c.if-is_tag_word.true) (sym c.names_type.ensures ∙ c.if-names_type.true) (no! h₂ refl)) }

pub specifiers-returns-then-names_type : goal.specifiers-returns-then-names_type
specifiers-returns-then-names_type t c = record { run = λ t₁ h. turn (c.loop-kind.invariant.going t₁ h) (λ t₂ f l h₂. at_name _ _ _ _ _ _ c.kind-kind.ensures (sym c.is_word.ensures ∙ not-false _ c.if-not-is_word.false-raw) (sym c.says_no_type.ensures ∙ c.if-says_no_type.false) (sym c.is_type_word.ensures ∙ c.if-is_type_word.false) (sym c.is_tag_word.ensures ∙ c.if-is_tag_word.false) (sym c.names_type.ensures ∙ c.if-names_type.true) (got! h₂)) }

pub specifiers-type_row-requires : goal.specifiers-type_row-requires
specifiers-type_row-requires t c = (omega (arith, c.decreases), (c.loop-kind.invariant.held, (words-inside c.kind-kind.ensures (sym c.is_word.ensures ∙ not-false _ c.if-not-is_word.false-raw))))

pub specifiers-loop-kind-smaller : goal.specifiers-loop-kind-smaller
specifiers-loop-kind-smaller t c = past_row c.loop-kind.invariant c.kind-kind.ensures (sym c.is_word.ensures ∙ not-false _ c.if-not-is_word.false-raw) c.in_ok-e.ensures refl

pub specifiers-loop-kind-preserved : goal.specifiers-loop-kind-preserved
specifiers-loop-kind-preserved t c = next_row c.loop-kind.invariant c.kind-kind.ensures (sym c.is_word.ensures ∙ not-false _ c.if-not-is_word.false-raw) c.in_ok-e.ensures refl (sym c.says_no_type.ensures ∙ c.if-says_no_type.false) (sym c.is_type_word.ensures ∙ c.if-is_type_word.false) (sym c.names_type.ensures ∙ c.if-names_type.false) c.based_on-p.ensures

pub specifiers-returns-in_err-e : goal.specifiers-returns-in_err-e
specifiers-returns-in_err-e t c = record { run = λ t₁ h. turn (c.loop-kind.invariant.going t₁ h) (λ t₂ f l h₂. at_row _ _ _ _ _ _ c.kind-kind.ensures (sym c.is_word.ensures ∙ not-false _ c.if-not-is_word.false-raw) (sym c.says_no_type.ensures ∙ c.if-says_no_type.false) (sym c.is_type_word.ensures ∙ c.if-is_type_word.false) (sym c.names_type.ensures ∙ c.if-names_type.false) (exit (reply_by said) _ (c.in_err-e.ensures.run t₂ h₂) c.from_residual.ensures.1 refl)) }

pub suffix-parameters-requires : goal.suffix-parameters-requires
suffix-parameters-requires t c = (omega (arith, c.decreases), c.requires)

pub suffix-returns-then-eq : goal.suffix-returns-then-eq
unfolding suffix_step
suffix-returns-then-eq t c = record { run = λ t₁ h. eq+ _ _ _ _ (is_kind c.args.kind OpenParen c.eq.ensures c.if-eq.true) (c.parameters.ensures.run t₁ h) }

pub suffix-array_bound-requires : goal.suffix-array_bound-requires
suffix-array_bound-requires t c = c.requires.room

pub suffix-returns : goal.suffix-returns
unfolding suffix_step
suffix-returns t c = record { run = λ t₁ h. eq- _ _ _ _ (no_kind c.args.kind OpenParen c.eq.ensures c.if-eq.false) (next _ ((c.in_ok-e.ensures.with _ _).run t₁ h) (λ t₂ h₂. got! h₂)) }

pub suffix-returns-in_err-e : goal.suffix-returns-in_err-e
unfolding suffix_step
suffix-returns-in_err-e t c = record { run = λ t₁ h. eq- _ _ _ _ (no_kind c.args.kind OpenParen c.eq.ensures c.if-eq.false) (exit (reply_by step_of) _ ((c.in_err-e.ensures.with _ _).run t₁ h) c.from_residual.ensures.1 refl) }

pub suffixes-loop-kind-init : goal.suffixes-loop-kind-init
suffixes-loop-kind-init t c = suffixes-begin c.requires.held c.requires.waiting

pub suffixes-returns-then-ne-2 : goal.suffixes-returns-then-ne-2
suffixes-returns-then-ne-2 t c = ended c.loop-kind.invariant c.kind-kind.ensures (no_kind! c.kind-kind.result OpenBracket c.ne.ensures c.if-ne.true) (no_kind! c.kind-kind.result OpenParen c.ne-then-ne.ensures c.if-ne-2.true) refl

pub suffixes-overflow_add-at : goal.suffixes-overflow_add-at
suffixes-overflow_add-at t c = omega (arith, c.args.parser.now.few, suffix-there c.loop-kind.invariant c.kind-kind.ensures (elim c.else-ne.branch [ suffixes-else-ne-via-then-ne+else-ne-2 w ↦ inr (is_kind! c.kind-kind.result OpenParen w.ne-then-ne.ensures w.if-ne-2.false) | suffixes-else-ne-via-else-ne w ↦ inl (is_kind! c.kind-kind.result OpenBracket c.ne.ensures w.if-ne.false) ]))

pub suffixes-overflow_add-at-in-loop-kind : goal.suffixes-overflow_add-at-in-loop-kind
suffixes-overflow_add-at-in-loop-kind t c = omega (arith, c.args.parser.now.few, suffix-there c.loop-kind.invariant c.kind-kind.ensures (elim c.else-ne.branch [ suffixes-else-ne-via-then-ne+else-ne-2 w ↦ inr (is_kind! c.kind-kind.result OpenParen w.ne-then-ne.ensures w.if-ne-2.false) | suffixes-else-ne-via-else-ne w ↦ inl (is_kind! c.kind-kind.result OpenBracket c.ne.ensures w.if-ne.false) ]))

pub suffixes-returns-then-is_full : goal.suffixes-returns-then-is_full
suffixes-returns-then-is_full t c = full c.loop-kind.invariant c.kind-kind.ensures (elim c.else-ne.branch [ suffixes-else-ne-via-then-ne+else-ne-2 w ↦ inr (is_kind! c.kind-kind.result OpenParen w.ne-then-ne.ensures w.if-ne-2.false) | suffixes-else-ne-via-else-ne w ↦ inl (is_kind! c.kind-kind.result OpenBracket c.ne.ensures w.if-ne.false) ]) c.is_full.ensures c.if-is_full.true (ap (λ x. x.answer) c.refused.ensures)

pub suffixes-suffix-requires : goal.suffixes-suffix-requires
suffixes-suffix-requires t c = (omega (arith, c.decreases), (held_at c.moved.ensures c.loop-kind.invariant.held))

pub suffixes-push-requires : goal.suffixes-push-requires
suffixes-push-requires t c = has_room _ c.is_full.ensures c.if-is_full.false

pub suffixes-loop-kind-smaller : goal.suffixes-loop-kind-smaller
suffixes-loop-kind-smaller t c = suffixes-fewer c.loop-kind.invariant c.kind-kind.ensures (elim c.else-ne.branch [ suffixes-else-ne-via-then-ne+else-ne-2 w ↦ inr (is_kind! c.kind-kind.result OpenParen w.ne-then-ne.ensures w.if-ne-2.false) | suffixes-else-ne-via-else-ne w ↦ inl (is_kind! c.kind-kind.result OpenBracket c.ne.ensures w.if-ne.false) ]) c.is_full.ensures c.if-is_full.false c.moved.ensures _ c.in-Ok.ensures

pub suffixes-loop-kind-preserved : goal.suffixes-loop-kind-preserved
suffixes-loop-kind-preserved t c = again c.loop-kind.invariant c.kind-kind.ensures (elim c.else-ne.branch [ suffixes-else-ne-via-then-ne+else-ne-2 w ↦ inr (is_kind! c.kind-kind.result OpenParen w.ne-then-ne.ensures w.if-ne-2.false) | suffixes-else-ne-via-else-ne w ↦ inl (is_kind! c.kind-kind.result OpenBracket c.ne.ensures w.if-ne.false) ]) c.is_full.ensures c.if-is_full.false c.moved.ensures _ c.in-Ok.ensures c.push.ensures

pub suffixes-returns-in-Err : goal.suffixes-returns-in-Err
suffixes-returns-in-Err t c = suffix-stop c.loop-kind.invariant c.kind-kind.ensures (elim c.else-ne.branch [ suffixes-else-ne-via-then-ne+else-ne-2 w ↦ inr (is_kind! c.kind-kind.result OpenParen w.ne-then-ne.ensures w.if-ne-2.false) | suffixes-else-ne-via-else-ne w ↦ inl (is_kind! c.kind-kind.result OpenBracket c.ne.ensures w.if-ne.false) ]) c.is_full.ensures c.if-is_full.false c.moved.ensures _ c.in-Err.ensures (ap (λ x. x.answer) c.refused-in-Err.ensures)

pub tag_type-enumeration-requires : goal.tag_type-enumeration-requires
tag_type-enumeration-requires t c = c.requires

pub tag_type-returns-then-eq : goal.tag_type-returns-then-eq
unfolding tagged_type
tag_type-returns-then-eq t c = record { run = λ t₁ h. eq+ _ _ _ _ (is_kind c.args.kind EnumWord c.eq.ensures c.if-eq.true) (c.enumeration.ensures.run t₁ h) }

pub tag_type-composite-requires : goal.tag_type-composite-requires
tag_type-composite-requires t c = (omega (arith, c.decreases), c.requires)

pub tag_type-returns : goal.tag_type-returns
unfolding tagged_type
tag_type-returns t c = record { run = λ t₁ h. eq- _ _ _ _ (no_kind c.args.kind EnumWord c.eq.ensures c.if-eq.false) (rw (c.eq-2.ensures ∙ same_kind c.args.kind UnionWord) at c.composite.ensures.run t₁ h) }

pub type_row-tag_type-requires : goal.type_row-tag_type-requires
type_row-tag_type-requires t c = (omega (arith, c.decreases), (held_at c.moved.ensures c.requires.held))

pub type_row-returns-then-is_tag_word : goal.type_row-returns-then-is_tag_word
type_row-returns-then-is_tag_word t c = record { run = λ t₁ h. by-tag _ _ _ _ c.kind-kind.ensures c.is_tag_word.ensures c.if-is_tag_word.true (step-on c.moved.ensures c.tag_type.ensures h) }

pub type_row-returns-in_err-e : goal.type_row-returns-in_err-e
type_row-returns-in_err-e t c = record { run = λ t₁ h. words-by_name _ _ _ _ c.kind-kind.ensures c.is_tag_word.ensures c.if-is_tag_word.false (exit reply _ (c.in_err-e.ensures.run t₁ h) c.from_residual.ensures.1 refl) }

pub type_row-returns : goal.type_row-returns
type_row-returns t c = record { run = λ t₁ h. words-by_name _ _ _ _ c.kind-kind.ensures c.is_tag_word.ensures c.if-is_tag_word.false (next _ (c.in_ok-e.ensures.run t₁ h) (λ t₂ h₂. got-at (past-name _ _ c.in_ok-e.ensures c.requires.held refl refl c.moved-2.ensures) h₂)) }

pub with_tag-returns-in_err-e : goal.with_tag-returns-in_err-e
unfolding tagged_composite
with_tag-returns-in_err-e t c = record { run = λ t₁ h. exit reply _ (c.in_err-e.ensures.run t₁ h) c.from_residual.ensures.1 refl }

pub with_tag-returns-then-ne : goal.with_tag-returns-then-ne
unfolding tagged_composite
with_tag-returns-then-ne t c = record { run = λ t₁ h. next _ (c.in_ok-e.ensures.run t₁ h) (λ t₂ h₂. is- _ _ c.kind.ensures (no_kind! c.kind.result OpenBrace c.ne.ensures c.if-ne.true) (by refl (got! h₂))) }

pub with_tag-overflow_add-i : goal.with_tag-overflow_add-i
with_tag-overflow_add-i t c = omega (arith, there c.kind.ensures (is_kind! c.kind.result OpenBrace c.ne.ensures c.if-ne.false), c.args.parser.now.few)

pub with_tag-body-requires : goal.with_tag-body-requires
with_tag-body-requires t c = (omega (arith, c.decreases), (held_at c.moved.ensures (held_next c.in_ok-e.ensures c.requires)))

pub with_tag-define_body-requires : goal.with_tag-define_body-requires
with_tag-define_body-requires t c = held_next c.in_ok-f.ensures (held_at c.moved.ensures (held_next c.in_ok-e.ensures c.requires))

pub with_tag-returns : goal.with_tag-returns
unfolding tagged_composite define_body
with_tag-returns t c = record {
  run = λ t₁ h. next _ (c.in_ok-e.ensures.run t₁ h) (λ t₂ h₂. is+ _ _ c.kind.ensures (is_kind! c.kind.result OpenBrace c.ne.ensures c.if-ne.false)
      (next _ (step-on c.moved.ensures c.in_ok-f.ensures h₂) (λ t₃ h₃. got! (c.define_body.ensures.run t₃ h₃))));
}

pub with_tag-returns-in_err-f : goal.with_tag-returns-in_err-f
unfolding tagged_composite
with_tag-returns-in_err-f t c = record {
  run = λ t₁ h. next _ (c.in_ok-e.ensures.run t₁ h) (λ t₂ h₂. is+ _ _ c.kind.ensures (is_kind! c.kind.result OpenBrace c.ne.ensures c.if-ne.false)
      (exit reply _ (step-on c.moved.ensures c.in_err-f.ensures h₂) c.from_residual-in_err-f.ensures.1 refl));
}

pub without_tag-returns-then-ne : goal.without_tag-returns-then-ne
unfolding untagged_composite
without_tag-returns-then-ne t c = record { run = λ t₁ h. is- _ _ c.kind.ensures (no_kind! c.kind.result OpenBrace c.ne.ensures c.if-ne.true) (no! h refl) }

pub without_tag-overflow_add-at : goal.without_tag-overflow_add-at
without_tag-overflow_add-at t c = omega (arith, there c.kind.ensures (is_kind! c.kind.result OpenBrace c.ne.ensures c.if-ne.false), c.args.parser.now.few)

pub without_tag-body-requires : goal.without_tag-body-requires
without_tag-body-requires t c = (omega (arith, c.decreases), (held_at c.moved.ensures c.requires))

pub without_tag-add_body-requires : goal.without_tag-add_body-requires
without_tag-add_body-requires t c = (held_next c.in_ok-f.ensures (held_at c.moved.ensures c.requires), first_fits _ _ _ _ _ c.in_ok-f.ensures (held_at c.moved.ensures c.requires) refl)

pub without_tag-returns : goal.without_tag-returns
unfolding untagged_composite
without_tag-returns t c = record { run = λ t₁ h. is+ _ _ c.kind.ensures (is_kind! c.kind.result OpenBrace c.ne.ensures c.if-ne.false) (next _ (step-on c.moved.ensures c.in_ok-f.ensures h) (λ t₂ h₂. c.add_body.ensures.run t₂ h₂)) }

pub without_tag-returns-in_err-f : goal.without_tag-returns-in_err-f
unfolding untagged_composite
without_tag-returns-in_err-f t c = record { run = λ t₁ h. is+ _ _ c.kind.ensures (is_kind! c.kind.result OpenBrace c.ne.ensures c.if-ne.false) (exit reply _ (step-on c.moved.ensures c.in_err-f.ensures h) c.from_residual.ensures.1 refl) }
