-- Each condition of demand 3 is needed: texts that break one of them, and have a walk that ends outside its start type.
use Rattle.std.specs.Prelude.{◌≡◌, refl, [], ◌∷◌, Bool, true, false, ◌≤◌}
use Rattle.std.proofs.Math.Option.{some}
use Prim.Native.String.{String}
use Rattle.std.proofs.Common.{arith}
use Rattle.definition.specs.Answer as Answer
use Rattle.definition.specs.Text as Text
use Rattle.definition.specs.Kind as Kind
use Rattle.definition.specs.Name as Name
use Rattle.definition.specs.Token as Token
use Rattle.definition.specs.Model as Model
use Rattle.definition.specs.Row as Row
use Rattle.definition.specs.Table as Table
use Rattle.definition.specs.Types as Types
use Rattle.definition.specs.Size as Size
use Rattle.definition.specs.Align as Align
use Rattle.definition.specs.Range as Range
use Rattle.definition.specs.Arithmetic as Arithmetic
use Rattle.definition.specs.Constant as Constant
use Rattle.definition.specs.Layout as Layout
use Rattle.definition.specs.Specifier as Specifier
use Rattle.definition.specs.Grammar as Grammar
use Rattle.definition.specs.Specifiers as Specifiers
use Rattle.definition.specs.Declarator as Declarator
use Rattle.definition.specs.Composite as Composite
use Rattle.definition.specs.Enumeration as Enumeration
use Rattle.definition.specs.Reader as Reader
use Rattle.definition.specs.Class as Class
use Rattle.definition.specs.Scan as Scan
use Rattle.definition.specs.Place as Place
use Rattle.definition.specs.Word as Word
use Rattle.definition.specs.Mark as Mark
use Rattle.definition.specs.Comment as Comment
use Rattle.definition.specs.Directive as Directive
use Rattle.definition.specs.Attribute as Attribute
use Rattle.definition.specs.Number as Number
use Rattle.definition.specs.Character as Character
use Rattle.definition.specs.Quoted as Quoted
use Rattle.definition.specs.Spelling as Spelling
use Rattle.definition.specs.Cut as Cut
use Rattle.definition.specs.NameTable as NameTable
use Rattle.definition.specs.Entry as Entry
use Rattle.definition.specs.Answer.{Answer, got, refused}
use Rattle.definition.specs.Text.{bytes}
use Rattle.definition.specs.Token.{Tokens, Lexed}
use Rattle.definition.specs.Cut.{tokenize}
use Rattle.definition.specs.Model.{lp64}
use Rattle.definition.specs.Table.{Table, new_table}
use Rattle.definition.specs.Entry.{Accepted, wholeHeader, read_with}
use Rattle.walks.specs.Walk as Walk
use Rattle.walks.specs.Walk.{member, index, value, bits, Walks}
use Rattle.walks.specs.Condition as Condition
use Rattle.walks.specs.Condition.{bodied_once, used_after_bodies, none_too_wide, orderly}

-- A refused text would stand here with the new table, so `verdict` says of each text that it is accepted.
is_accepted : Answer Accepted → Bool
is_accepted (got a) = true
is_accepted (refused n at) = false

table_of : Answer Accepted → Table
table_of (got a) = a.table
table_of (refused n at) = new_table

tokens_of : Answer Lexed → Tokens
tokens_of (got x) = x.tokens
tokens_of (refused n at) = record { kinds = []; numbers = [] }

-- the table of a text, under lp64
abbrev table : String → Table
table s = table_of (read_with lp64 wholeHeader (bytes s))

abbrev tokens : String → Tokens
tokens s = tokens_of (tokenize (bytes s))

-- a text is accepted, and meets each condition: no tag has two bodies; no enum tag is used before its body; no union bit-field is wider than its type
abbrev verdict : String → Bool × Bool × Bool × Bool
verdict s = (is_accepted (read_with lp64 wholeHeader (bytes s)), bodied_once (tokens s), used_after_bodies (tokens s), none_too_wide (table s).log)

-- T.s ends at 32 of 16 bits. Rows: 0 void, 1 struct S, 2 char, 3 struct T, 4 int; members: 0 S.a as it was, 1 T.s, 2 T.b, 3 S.a
abbrev two_struct_bodies : String
two_struct_bodies = "struct S{char a;};struct T{struct S s;char b;};struct S{int a;};"

-- T.u ends at 32 of 16 bits. Rows and members as above, with union U for struct S
abbrev two_union_bodies : String
two_union_bodies = "union U{char a;};struct T{union U u;char b;};union U{int a;};"

-- T.e ends at 64 of 32 bits. Rows: 0 void, 1 struct T, 2 enum E; members: 0 T.e
abbrev two_enum_bodies : String
two_enum_bodies = "struct T{enum E{A}e;};enum E{B=1<<40};"

-- T.e ends at 64 of 32 bits. Rows: 0 void, 1 enum E, 2 struct T; members: 0 T.e
abbrev early_enum : String
early_enum = "enum E;struct T{enum E e;};enum E{A=1<<40};"

-- the field ends at 9 of 8 bits. Rows: 0 void, 1 char, 2 the union; members: 0 its field
abbrev wide_field : String
wide_field = "union{char a:9;};"

-- Rows: 0 void, 1 struct A, 2 int, 3 int[], 4 enum E, 5 struct B, 6 struct A[2], 7 int[3]; members: 0 A.n, 1 A.t, 2 B.a, 3 B.b, 4 B.e
abbrev ordinary : String
ordinary = "struct A{int n;int t[];};enum E{X};struct B{struct A a[2];int b[3];enum E e;};"

-- Rows: 0 void, 1 int, 2 int[3], 3 the struct, 4 typedef A, 5 const A, 6 typedef B, 7 struct C, 8 char; members: 0 n, 1 C.c, 2 C.b
abbrev aliased : String
aliased = "typedef struct{int n[3];}A;typedef const A B;struct C{char c;B b;};"

-- a use inside a body of its tag, and a body in an initialiser, which the reader skips
abbrev inside : String
inside = "enum E{X};struct F{enum F*e;};"

abbrev skipped : String
skipped = "struct S{int a;};int x=struct S{1};"

-- For each condition, and for each word before a tag, a text that breaks it alone and has a walk that ends outside its start type; and texts that
-- meet the conditions, or break those on the text only.
needed :
    ((verdict two_struct_bodies ≡ (true, false, true, true)) × (Walks lp64 (table two_struct_bodies) → ⊥))
    × ((verdict two_union_bodies ≡ (true, false, true, true)) × (Walks lp64 (table two_union_bodies) → ⊥))
    × ((verdict two_enum_bodies ≡ (true, false, true, true)) × (Walks lp64 (table two_enum_bodies) → ⊥))
    × ((verdict early_enum ≡ (true, true, false, true)) × (Walks lp64 (table early_enum) → ⊥))
    × ((verdict wide_field ≡ (true, true, true, false)) × (Walks lp64 (table wide_field) → ⊥))
    × ((verdict ordinary ≡ (true, true, true, true)) × (orderly (table ordinary).log ≡ true) × (Walk.walk lp64 (table ordinary) 5 (member 3 ∷ index 2 ∷ []) ≡ some (value 2 128)))
    × ((verdict aliased ≡ (true, true, true, true)) × (orderly (table aliased).log ≡ true) × (Walk.walk lp64 (table aliased) 7 (member 2 ∷ member 0 ∷ index 2 ∷ []) ≡ some (value 1 96)))
    × ((verdict inside ≡ (true, true, false, true)) × (orderly (table inside).log ≡ false))
    × ((verdict skipped ≡ (true, false, true, true)) × (orderly (table skipped).log ≡ true))
unfolding is_accepted table_of tokens_of Condition.opens_body Condition.uses_enum Condition.opened_after Condition.every_below Condition.none_too_wide
    Condition.has_body Condition.has_use Condition.orderly Walk.shape_by Walk.shape_within Walk.step Walk.walk_from
    Answer.◌>>=◌ Text.bytes Text.same Kind.is_name Kind.is_word Name.name_of Name.offset_of Name.length_of Token.columns Token.here Token.need Model.lp64
    Model.ilp32 Model.llp64 Model.model_of Row.qualifier_bits Row.kind_of Row.target_of Row.flags_of Row.row_name Row.span_of Row.extent_of
    Table.storage_number Table.mark_of Table.carrying Table.push_row Table.push_member Table.push_value Table.push_parameter Table.push_declaration
    Types.row_named Types.same_numbers Types.same_member Types.same_value Types.same_parameter Types.pairwise Types.same_entries Types.same_row
    Types.equal_row Types.add Types.changed_from Types.is_unqualified Types.merged Types.qualifiers_of Types.qualify Types.is_alias Types.resolve_within
    Size.size_by Size.size_within Align.largest Align.align_by Align.align_within Range.in_range Range.ranged Range.exact Arithmetic.is_zero
    Arithmetic.truth Arithmetic.times Arithmetic.over Arithmetic.rest Arithmetic.sum Arithmetic.difference Arithmetic.modulo Arithmetic.count
    Arithmetic.shift_left Arithmetic.shift_right Arithmetic.less Arithmetic.greater Arithmetic.at_most Arithmetic.at_least Arithmetic.eq_z
    Arithmetic.equal Arithmetic.unequal Arithmetic.without Arithmetic.and_z Arithmetic.or_z Arithmetic.xor_z Arithmetic.bits_and Arithmetic.bits_xor
    Arithmetic.bits_or Arithmetic.both Arithmetic.either Arithmetic.chosen Arithmetic.operators Arithmetic.left_side Arithmetic.operator_in
    Arithmetic.precedence Arithmetic.operator Arithmetic.complement Arithmetic.is_false Arithmetic.unchanged Arithmetic.prefixes Arithmetic.prefix_in
    Arithmetic.is_prefix Arithmetic.prefixed Constant.primary Constant.operand₁ Constant.operators_from Constant.chain₁ Constant.condition₁
    Constant.level Constant.constant Layout.round_up Layout.within Layout.is_unsized Layout.member_size Layout.plain_member Layout.zero_field
    Layout.field_start Layout.field_at Layout.bit_field Layout.in_struct Layout.in_union Layout.placed Layout.is_last Layout.placed_all Layout.bytes_taken
    Layout.record_size Layout.layout Layout.none_wide Specifier.with_word Specifier.total Specifier.names_type Specifier.is_storage_word
    Specifier.storage_of Specifier.is_qualifier_word Specifier.with_qualifier Specifier.is_ignored_word Specifier.is_type_word Specifier.double_type
    Specifier.char_type Specifier.short_type Specifier.int_type Specifier.combine Specifier.type_in Specifier.builtin Grammar.needed
    Specifiers.named_type Specifiers.words_type Specifiers.base_type Specifiers.is_tag_word Specifiers.tagged_type Specifiers.specifiers_from
    Specifiers.specifiers Declarator.own_parameters Declarator.add_function Declarator.apply Declarator.adjusted Declarator.qualifiers_from
    Declarator.one_more_step Declarator.stars_from Declarator.starred Declarator.opens_declarator Declarator.bound_words Declarator.is_void_list
    Declarator.constant_bound Declarator.array_bound Declarator.parameter Declarator.parameters_end Declarator.parameters_from Declarator.parameters
    Declarator.suffixes_from Declarator.suffixes Declarator.direct₁ Declarator.declarator₁ Composite.own_members Composite.release_members
    Composite.fields_only Composite.how_many_carry Composite.define_body Composite.add_body Composite.tag_row Composite.is_composite Composite.noted Composite.bit_width
    Composite.member_declarator Composite.member_declarators Composite.anonymous_member Composite.member_declaration Composite.members_from
    Composite.body Composite.tagged_composite Composite.untagged_composite Composite.composite₁ Enumeration.value_named Enumeration.own_values
    Enumeration.release_values Enumeration.all_fit Enumeration.enum_bytes Enumeration.enum_tag_row Enumeration.define_enum Enumeration.add_enum
    Enumeration.bare_enum Enumeration.close_enum Enumeration.enumerator_value Enumeration.enumerator Enumeration.enumerators_from Enumeration.enum_body
    Enumeration.after_tag Enumeration.enumeration₁ Reader.constant_here Reader.levels Reader.nested Reader.skip_initialiser Reader.initialiser
    Reader.define_typedef Reader.is_typedef Reader.declared_row Reader.declare Reader.init_declarator Reader.init_declarators Reader.declaration
    Reader.separated Reader.declarations_from Reader.in_text Reader.translation_unit Reader.optional_semicolon Reader.nothing_more Reader.all_declarations Reader.lone_declaration
    Reader.one_declaration Class.among Class.is_blank_byte Class.is_letter_byte Class.is_digit_byte Class.mark_bytes Class.class_of Class.is_blank
    Class.is_word_byte Scan.begins Scan.before Scan.starts_with Scan.contains Place.after Place.after_all Place.place_of Word.attribute_words
    Word.keywords Word.builtin_names Word.words Word.kind_among Word.kind_of Mark.two_byte_marks Mark.one_byte_marks Mark.mark_among Mark.short_mark
    Mark.mark_of Mark.mark_at Comment.joins Comment.opens_line_comment Comment.opens_comment Comment.ends_line Comment.line_length Comment.ends_comment
    Comment.comment_end Comment.after_comment Directive.line_from Directive.directive Directive.past_blanks Directive.says_something Directive.ends_word
    Directive.is_body Directive.is_name_and_body Directive.is_macro Attribute.not_blank Attribute.in_parens Attribute.changes_layout Attribute.parenthesized
    Attribute.attribute_at Number.is_number_byte Number.ends_number Number.digit_value Number.suffix_bytes Number.body_length Number.base_of
    Number.are_digits Number.value_from Number.in_range Number.digits_value Number.body_value Number.number_value Character.ends_hex Character.escaped
    Character.hex_byte Character.escape Character.one_byte Character.bytes_from Character.character_at Quoted.in_quotes Quoted.after_string
    Spelling.known_name Cut.skip_to Cut.new_line Cut.drop_to Cut.push Cut.meet Cut.push_name Cut.push_attribute Cut.cut_word_of Cut.word_at Cut.cut_word
    Cut.number_word Cut.cut_number Cut.cut_character Cut.cut_string Cut.cut_mark Cut.cut_token Cut.cut_directive Cut.cut_comment Cut.cut_other Cut.cut_next
    Cut.cut_all Cut.cut Cut.above_ascii Cut.check_bytes Cut.tokenize NameTable.held_names NameTable.is_held NameTable.names_among NameTable.name_table
    Entry.parse Entry.read_with Entry.read Entry.told Entry.outcome
needed = (
  (refl, λ w. (let h : 32 ≤ 16 = w.inside 3 2 refl (member 1 ∷ []) (value 1 0) refl in omega arith)),
  (refl, λ w. (let h : 32 ≤ 16 = w.inside 3 2 refl (member 1 ∷ []) (value 1 0) refl in omega arith)),
  (refl, λ w. (let h : 64 ≤ 32 = w.inside 1 4 refl (member 0 ∷ []) (value 2 0) refl in omega arith)),
  (refl, λ w. (let h : 64 ≤ 32 = w.inside 2 4 refl (member 0 ∷ []) (value 1 0) refl in omega arith)),
  (refl, λ w. (let h : 9 ≤ 8 = w.inside 2 1 refl (member 0 ∷ []) (bits 0 9) refl in omega arith)),
  (refl, refl, refl),
  (refl, refl, refl),
  (refl, refl),
  (refl, refl),
)
