-- Document 01's examples, computed from their texts: P1 to P10 in one table with one theorem, the examples of its refusals, and the listing's.
use Rattle.std.specs.Prelude.{◌≡◌, refl, List, [], ◌∷◌, ◌++◌, map, true, ℕ, zero, suc, replicate}
use Rattle.std.proofs.Math.Option.{Option, none, some}
use Prim.Native.String.{String}
use Rattle.definition.specs.Answer as Answer
use Rattle.definition.specs.Text as Text
use Rattle.definition.specs.Kind as Kind
use Rattle.definition.specs.Name as Name
use Rattle.definition.specs.Token as Token
use Rattle.definition.specs.Model as Model
use Rattle.definition.specs.Row as Row
use Rattle.definition.specs.Table as Table
use Rattle.definition.specs.Types as Types
use Rattle.definition.specs.Size as Size
use Rattle.definition.specs.Align as Align
use Rattle.definition.specs.Range as Range
use Rattle.definition.specs.Arithmetic as Arithmetic
use Rattle.definition.specs.Constant as Constant
use Rattle.definition.specs.Layout as Layout
use Rattle.definition.specs.Specifier as Specifier
use Rattle.definition.specs.Grammar as Grammar
use Rattle.definition.specs.Specifiers as Specifiers
use Rattle.definition.specs.Declarator as Declarator
use Rattle.definition.specs.Composite as Composite
use Rattle.definition.specs.Enumeration as Enumeration
use Rattle.definition.specs.Reader as Reader
use Rattle.definition.specs.Class as Class
use Rattle.definition.specs.Scan as Scan
use Rattle.definition.specs.Place as Place
use Rattle.definition.specs.Word as Word
use Rattle.definition.specs.Mark as Mark
use Rattle.definition.specs.Comment as Comment
use Rattle.definition.specs.Directive as Directive
use Rattle.definition.specs.Attribute as Attribute
use Rattle.definition.specs.Number as Number
use Rattle.definition.specs.Character as Character
use Rattle.definition.specs.Quoted as Quoted
use Rattle.definition.specs.Spelling as Spelling
use Rattle.definition.specs.Cut as Cut
use Rattle.definition.specs.NameTable as NameTable
use Rattle.definition.specs.Entry as Entry
use Rattle.definition.specs.Lent as Lent
use Rattle.definition.specs.Listing as Listing
use Rattle.definition.specs.Text.{Bytes, bytes}
use Rattle.definition.specs.Entry.{Entry, wholeHeader, singleDeclaration, Outcome, accepted, rejected, outcome}
use Rattle.definition.specs.Model.{model_of}
use Rattle.definition.specs.Table.{Member, Table}
use Rattle.definition.specs.Align.{align_of}
use Rattle.definition.specs.Listing.{printed, or_lp64}

abbrev lp64_number : ℕ
lp64_number = 0

abbrev ilp32_number : ℕ
ilp32_number = 1

-- a text n times
times : ℕ → Bytes → Bytes
times zero b = []
times (suc n) b = b ++ times n b

-- lines, each ended by a line feed
lines : List String → Bytes
lines [] = []
lines (s ∷ ss) = bytes s ++ bytes "\n" ++ lines ss

-- the alignment of the type of the last member read
last_type : ℕ → List Member → ℕ
last_type n [] = n
last_type n (e ∷ es) = last_type e.type es

last_align : Outcome → Option ℕ
last_align (accepted a) = align_of (or_lp64 (model_of lp64_number)) a.table (last_type 0 a.table.members)
last_align (rejected n at line column) = none

-- P9: n parentheses
parens : ℕ → Bytes
parens n = bytes "int " ++ times n (bytes "(") ++ bytes "x" ++ times n (bytes ")") ++ bytes ";"

-- P10: a member whose type is n structs, one in the other, around an int
nest : ℕ → Bytes
nest n = bytes "struct{" ++ times n (bytes "struct{") ++ bytes "int a;" ++ times n (bytes "}a;") ++ bytes "};"

-- what is asked of a text, and what is answered
data Question : Type 0 where
  list : ℕ → Bytes → Question  -- its listing, under a model's number
  alone : ℕ → Bytes → Question  -- its listing, as a single declaration
  align : Bytes → Question  -- the alignment of its last member's type

data Reply : Type 0 where
  says : Bytes → Reply
  aligned : Option ℕ → Reply

reply : Question → Reply
reply (list m b) = says (printed m wholeHeader b)
reply (alone m b) = says (printed m singleDeclaration b)
reply (align b) = aligned (last_align (outcome lp64_number true wholeHeader b))

abbrev Examples : Type 0
Examples = List (Question × Reply)

-- the marked examples, P1 to P10
marked : Examples
marked =
    (list lp64_number (bytes "struct{};"), says (lines ("type 0 void - -" ∷ "type 1 struct 0 1 -" ∷ "decl none 1 -" ∷ [])))  -- P1
    ∷ (list lp64_number (bytes "struct{char a;int b:3;int c:30;};"), says (lines ("type 0 void - -" ∷ "type 1 int 1 1 signed" ∷ "type 2 int 4 4 signed" ∷ "type 3 struct 8 4 -" ∷ "member 0 - - 1 a" ∷ "member 0 8 3 2 b" ∷ "member 4 32 30 2 c" ∷ "decl none 3 -" ∷ [])))  -- P2
    ∷ (list ilp32_number (bytes "struct{int a;long long b:40;};"), says (lines ("type 0 void - -" ∷ "type 1 int 4 4 signed" ∷ "type 2 int 8 4 signed" ∷ "type 3 struct 12 4 -" ∷ "member 0 - - 1 a" ∷ "member 0 32 40 2 b" ∷ "decl none 3 -" ∷ [])))  -- P3
    ∷ (list lp64_number (bytes "struct{char a;int:0;char b;};"), says (lines ("type 0 void - -" ∷ "type 1 int 1 1 signed" ∷ "type 2 int 4 4 signed" ∷ "type 3 struct 8 1 -" ∷ "member 0 - - 1 a" ∷ "member 4 - - 1 b" ∷ "decl none 3 -" ∷ [])))  -- P4
    ∷ (list lp64_number (bytes "enum{OPEN,SHUT=24*60,NEXT};"), says (lines ("type 0 void - -" ∷ "type 1 enum 4 4 -" ∷ "value 0 OPEN" ∷ "value 1440 SHUT" ∷ "value 1441 NEXT" ∷ "decl none 1 -" ∷ [])))  -- P5
    ∷ (list lp64_number (bytes "enum{A=-7/2,B=-7%2,C=-7>>1};"), says (lines ("type 0 void - -" ∷ "type 1 enum 4 4 -" ∷ "value -3 A" ∷ "value -1 B" ∷ "value -4 C" ∷ "decl none 1 -" ∷ [])))  -- P6
    ∷ (list lp64_number (bytes "enum{D=1<<4294967296};"), says (lines ("type 0 void - -" ∷ "type 1 enum 4 4 -" ∷ "value 1 D" ∷ "decl none 1 -" ∷ [])))  -- P7
    ∷ (list lp64_number (bytes "enum {A=1?2:1/0}"), says (lines ("refused 22 13 1 14" ∷ [])))  -- P8
    ∷ (list lp64_number (parens 30), says (lines ("type 0 void - -" ∷ "type 1 int 4 4 signed" ∷ "decl none 1 x" ∷ [])))  -- P9
    ∷ (list lp64_number (parens 31), says (lines ("refused 9 35 1 36" ∷ [])))  -- P9
    ∷ (align (nest 32), aligned (some 4))  -- P10
    ∷ (align (nest 33), aligned (some 1))  -- P10
    ∷ []

-- An example of each refusal, document 01's own but for 27: to compute 1,025 times `int a;` takes more steps than the checker gives to one
-- declaration, and 257 stars pass a limit too.
refusals : Examples
refusals =
    (list 3 [], says (lines ("refused 1 0 1 1" ∷ [])))  -- 1
    ∷ (list lp64_number (replicate 32769 32), says (lines ("refused 2 0 1 1" ∷ [])))  -- 2
    ∷ (list lp64_number (bytes "int a;" ++ 200 ∷ []), says (lines ("refused 3 6 1 7" ∷ [])))  -- 3
    ∷ (list lp64_number (bytes "#define N 6"), says (lines ("refused 4 0 1 1" ∷ [])))  -- 4
    ∷ (list lp64_number (bytes "/*"), says (lines ("refused 5 2 1 3" ∷ [])))  -- 5
    ∷ (list lp64_number (bytes "int a[08];"), says (lines ("refused 6 6 1 7" ∷ [])))  -- 6
    ∷ (list lp64_number (bytes "int @;"), says (lines ("refused 7 4 1 5" ∷ [])))  -- 7
    ∷ (list lp64_number (bytes "enum{A=1<<63};"), says (lines ("refused 8 8 1 9" ∷ [])))  -- 8
    ∷ (list lp64_number (bytes "int " ++ times 31 (bytes "(") ++ bytes "x"), says (lines ("refused 9 35 1 36" ∷ [])))  -- 9
    ∷ (list lp64_number (bytes "int a[2;"), says (lines ("refused 10 7 1 8" ∷ [])))  -- 10
    ∷ (list lp64_number (bytes "int struct S a;"), says (lines ("refused 11 4 1 5" ∷ [])))  -- 11
    ∷ (list lp64_number (bytes "foo a;"), says (lines ("refused 12 0 1 1" ∷ [])))  -- 12
    ∷ (list lp64_number (bytes "__attribute__((packed)) int a;"), says (lines ("refused 13 0 1 1" ∷ [])))  -- 13
    ∷ (list lp64_number (bytes "typedef int;"), says (lines ("refused 14 0 1 1" ∷ [])))  -- 14
    ∷ (list lp64_number (bytes "typedef int T; typedef char T;"), says (lines ("refused 15 28 1 29" ∷ [])))  -- 15
    ∷ (list lp64_number (bytes "void a[2];"), says (lines ("refused 16 9 1 10" ∷ [])))  -- 16
    ∷ (list lp64_number (bytes "struct{static int a;};"), says (lines ("refused 17 7 1 8" ∷ [])))  -- 17
    ∷ (list lp64_number (bytes "int a[-1];"), says (lines ("refused 18 6 1 7" ∷ [])))  -- 18
    ∷ (list lp64_number (bytes "struct{int a:65;};"), says (lines ("refused 19 11 1 12" ∷ [])))  -- 19
    ∷ (list lp64_number (bytes "struct{struct S s;};"), says (lines ("refused 20 16 1 17" ∷ [])))  -- 20
    ∷ (list lp64_number (bytes "struct{char a[4294967296];};"), says (lines ("refused 21 6 1 7" ∷ [])))  -- 21
    ∷ (list lp64_number (bytes "int a[1/0];"), says (lines ("refused 22 7 1 8" ∷ [])))  -- 22
    ∷ (list lp64_number (bytes "int a[N];"), says (lines ("refused 23 6 1 7" ∷ [])))  -- 23
    ∷ (alone lp64_number (bytes "int a,b;"), says (lines ("refused 24 0 1 1" ∷ [])))  -- 24
    ∷ (list lp64_number (bytes "enum E:int{A};"), says (lines ("refused 25 5 1 6" ∷ [])))  -- 25
    ∷ (list lp64_number (bytes "struct{char a[4611686018427387904];};"), says (lines ("refused 26 12 1 13" ∷ [])))  -- 26
    ∷ (list lp64_number (bytes "int " ++ times 257 (bytes "*") ++ bytes "x;"), says (lines ("refused 27 261 1 262" ∷ [])))  -- 27
    ∷ []

-- the listing, and "wrong ways that look fair"
others : Examples
others =
    (list lp64_number (bytes "struct T{char d;short m[6];};"), says (lines ("type 0 void - -" ∷ "type 1 struct 14 2 T" ∷ "member 0 - - 2 d" ∷ "member 2 - - 4 m" ∷ "type 2 int 1 1 signed" ∷ "type 3 int 2 2 signed" ∷ "type 4 array 12 2 3 6" ∷ "decl none 1 -" ∷ [])))  -- the listing's own example
    ∷ (list lp64_number (bytes "struct S{char c;};struct S{int i;};struct{struct S s;};"), says (lines ("type 0 void - -" ∷ "type 1 struct 4 4 S" ∷ "member 0 - - 3 i" ∷ "type 2 int 1 1 signed" ∷ "type 3 int 4 4 signed" ∷ "type 4 struct 4 4 -" ∷ "member 0 - - 1 s" ∷ "decl none 1 -" ∷ "decl none 1 -" ∷ "decl none 4 -" ∷ [])))  -- a new body's alignment counts
    ∷ (list lp64_number (bytes "enum{A=--1};"), says (lines ("type 0 void - -" ∷ "type 1 enum 4 4 -" ∷ "value 1 A" ∷ "decl none 1 -" ∷ [])))  -- each arm is evaluated, and `--1` is two minuses
    ∷ (list lp64_number (bytes "struct{int a;}x;struct{int a;}y;"), says (lines ("type 0 void - -" ∷ "type 1 int 4 4 signed" ∷ "type 2 struct 4 4 -" ∷ "member 0 - - 1 a" ∷ "decl none 2 x" ∷ "decl none 2 y" ∷ [])))  -- two anonymous structs with equal fields are one row
    ∷ []

abbrev answered : Examples → Type 0
answered t = map (λ e. reply e.0) t ≡ map (λ e. e.1) t

computed : answered marked × answered refusals × answered others
unfolding marked refusals others reply last_align last_type parens nest times lines
    Answer.◌>>=◌ Text.bytes Text.same Kind.is_name Kind.is_word Name.name_of Name.offset_of Name.length_of Token.columns Token.here Token.need Model.lp64
    Model.ilp32 Model.llp64 Model.model_of Row.qualifier_bits Row.kind_of Row.target_of Row.flags_of Row.row_name Row.span_of Row.extent_of Table.storage_number
    Table.mark_of Table.carrying Table.push_row Table.push_member Table.push_value Table.push_parameter Table.push_declaration Types.row_named Types.same_numbers
    Types.same_member Types.same_value Types.same_parameter Types.pairwise Types.same_entries Types.same_row Types.equal_row Types.add Types.changed_from
    Types.is_unqualified Types.merged Types.qualifiers_of Types.qualify Types.is_alias Types.resolve_within Size.size_by Size.size_within Align.largest
    Align.align_by Align.align_within Range.in_range Range.ranged Range.exact Arithmetic.is_zero Arithmetic.truth Arithmetic.times Arithmetic.over
    Arithmetic.rest Arithmetic.sum Arithmetic.difference Arithmetic.modulo Arithmetic.count Arithmetic.shift_left Arithmetic.shift_right Arithmetic.less
    Arithmetic.greater Arithmetic.at_most Arithmetic.at_least Arithmetic.eq_z Arithmetic.equal Arithmetic.unequal Arithmetic.without Arithmetic.and_z
    Arithmetic.or_z Arithmetic.xor_z Arithmetic.bits_and Arithmetic.bits_xor Arithmetic.bits_or Arithmetic.both Arithmetic.either Arithmetic.chosen
    Arithmetic.operators Arithmetic.left_side Arithmetic.operator_in Arithmetic.precedence Arithmetic.operator Arithmetic.complement Arithmetic.is_false
    Arithmetic.unchanged Arithmetic.prefixes Arithmetic.prefix_in Arithmetic.is_prefix Arithmetic.prefixed Constant.primary Constant.operand₁
    Constant.operators_from Constant.chain₁ Constant.condition₁ Constant.level Constant.constant Layout.round_up Layout.within Layout.is_unsized
    Layout.member_size Layout.plain_member Layout.zero_field Layout.field_start Layout.field_at Layout.bit_field Layout.in_struct Layout.in_union Layout.placed
    Layout.is_last Layout.placed_all Layout.bytes_taken Layout.record_size Layout.layout Layout.none_wide Specifier.with_word Specifier.total
    Specifier.names_type Specifier.is_storage_word Specifier.storage_of Specifier.is_qualifier_word Specifier.with_qualifier Specifier.is_ignored_word
    Specifier.is_type_word Specifier.double_type Specifier.char_type Specifier.short_type Specifier.int_type Specifier.combine Specifier.type_in
    Specifier.builtin Grammar.needed Specifiers.named_type Specifiers.words_type Specifiers.base_type Specifiers.is_tag_word Specifiers.tagged_type
    Specifiers.specifiers_from Specifiers.specifiers Declarator.own_parameters Declarator.add_function Declarator.apply Declarator.adjusted
    Declarator.qualifiers_from Declarator.one_more_step Declarator.stars_from Declarator.starred Declarator.opens_declarator Declarator.bound_words
    Declarator.is_void_list Declarator.constant_bound Declarator.array_bound Declarator.parameter Declarator.parameters_end Declarator.parameters_from
    Declarator.parameters Declarator.suffixes_from Declarator.suffixes Declarator.direct₁ Declarator.declarator₁ Composite.own_members Composite.fields_only
    Composite.release_members Composite.how_many_carry Composite.define_body Composite.add_body Composite.tag_row Composite.is_composite Composite.noted
    Composite.bit_width Composite.member_declarator Composite.member_declarators Composite.anonymous_member Composite.member_declaration Composite.members_from
    Composite.body Composite.tagged_composite Composite.untagged_composite Composite.composite₁ Enumeration.value_named Enumeration.own_values
    Enumeration.release_values Enumeration.all_fit Enumeration.enum_bytes Enumeration.enum_tag_row Enumeration.define_enum Enumeration.add_enum
    Enumeration.bare_enum Enumeration.close_enum Enumeration.enumerator_value Enumeration.enumerator Enumeration.enumerators_from Enumeration.enum_body
    Enumeration.after_tag Enumeration.enumeration₁ Reader.constant_here Reader.levels Reader.nested Reader.skip_initialiser Reader.initialiser
    Reader.define_typedef Reader.is_typedef Reader.declared_row Reader.declare Reader.init_declarator Reader.init_declarators Reader.declaration
    Reader.separated Reader.declarations_from Reader.optional_semicolon Reader.nothing_more Reader.all_declarations Reader.lone_declaration Reader.in_text
    Reader.translation_unit Reader.one_declaration Class.among Class.is_blank_byte Class.is_letter_byte Class.is_digit_byte Class.mark_bytes Class.class_of
    Class.is_blank Class.is_word_byte Scan.begins Scan.before Scan.starts_with Scan.contains Place.after Place.after_all Place.place_of Word.attribute_words
    Word.keywords Word.builtin_names Word.words Word.kind_among Word.kind_of Mark.two_byte_marks Mark.one_byte_marks Mark.mark_among Mark.short_mark Mark.mark_of
    Mark.mark_at Comment.joins Comment.opens_line_comment Comment.opens_comment Comment.ends_line Comment.line_length Comment.ends_comment Comment.comment_end
    Comment.after_comment Directive.line_from Directive.directive Directive.past_blanks Directive.says_something Directive.ends_word Directive.is_body
    Directive.is_name_and_body Directive.is_macro Attribute.not_blank Attribute.in_parens Attribute.changes_layout Attribute.parenthesized Attribute.attribute_at
    Number.is_number_byte Number.ends_number Number.digit_value Number.suffix_bytes Number.body_length Number.base_of Number.are_digits Number.value_from
    Number.in_range Number.digits_value Number.body_value Number.number_value Character.ends_hex Character.escaped Character.hex_byte Character.escape
    Character.one_byte Character.bytes_from Character.character_at Quoted.in_quotes Quoted.after_string Spelling.known_name Cut.skip_to Cut.new_line Cut.drop_to
    Cut.push Cut.meet Cut.push_name Cut.push_attribute Cut.cut_word_of Cut.word_at Cut.cut_word Cut.number_word Cut.cut_number Cut.cut_character Cut.cut_string
    Cut.cut_mark Cut.cut_token Cut.cut_directive Cut.cut_comment Cut.cut_other Cut.cut_next Cut.cut_all Cut.cut Cut.above_ascii Cut.check_bytes Cut.tokenize
    NameTable.held_names NameTable.is_held NameTable.names_among NameTable.name_table Entry.parse Entry.read_with Entry.read Entry.told Entry.outcome
    Lent.padded Lent.flat Lent.table_words Lent.words Lent.wides Lent.signeds Lent.long_enough Lent.zeroed Lent.left_in Listing.digits_before Listing.decimal
    Listing.signed_decimal Listing.or_dash Listing.size_word Listing.name_word Listing.parted Listing.line Listing.letters Listing.kind_word Listing.details
    Listing.type_line Listing.member_line Listing.value_line Listing.param_line Listing.sub_lines Listing.type_lines Listing.storage_word Listing.decl_line
    Listing.listing Listing.refused_line Listing.printed_outcome Listing.printed
computed = (refl, refl, refl)
