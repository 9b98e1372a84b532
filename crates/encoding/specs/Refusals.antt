-- The refusals: the number of each, and an answer of the code as the definition's.
use Rattle.std.specs.Prelude.{ℕ, Result, Ok, Err}
use Rattle.definition.specs.Answer.{Answer, got, refused}
use Rattle.definition.specs.Refusal.{bad_call, text_too_long, not_ascii, macro_line, not_closed, bad_literal, stray_byte, out_of_range, too_deep, missing_mark, bad_type_words, unknown_type, layout_attribute, missing_name, typedef_changed, impossible_type, member_storage, bad_bound, bad_width, unknown_size, record_too_large, division_by_zero, no_constant, not_one_declaration, fixed_enum, layout_overflow, limit_passed}
use Rattle.encoding.specs.declared.refusals.Reason.{Reason}
use Rattle.encoding.specs.declared.refusals.Reason.TheVariants.{BadCall, TextTooLong, NotAscii, MacroLine, NotClosed, BadLiteral, StrayByte, OutOfRange, TooDeep, MissingMark, BadTypeWords, UnknownType, LayoutAttribute, MissingName, TypedefChanged, ImpossibleType, MemberStorage, BadBound, BadWidth, UnknownSize, RecordTooLarge, DivisionByZero, NoConstant, NotOneDeclaration, FixedEnum, LayoutOverflow, LimitPassed}
use Rattle.encoding.specs.declared.refusals.Refusal.{Refusal}

abbrev pub number_of : Reason → ℕ
number_of BadCall = bad_call
number_of TextTooLong = text_too_long
number_of NotAscii = not_ascii
number_of MacroLine = macro_line
number_of NotClosed = not_closed
number_of BadLiteral = bad_literal
number_of StrayByte = stray_byte
number_of OutOfRange = out_of_range
number_of TooDeep = too_deep
number_of MissingMark = missing_mark
number_of BadTypeWords = bad_type_words
number_of UnknownType = unknown_type
number_of LayoutAttribute = layout_attribute
number_of MissingName = missing_name
number_of TypedefChanged = typedef_changed
number_of ImpossibleType = impossible_type
number_of MemberStorage = member_storage
number_of BadBound = bad_bound
number_of BadWidth = bad_width
number_of UnknownSize = unknown_size
number_of RecordTooLarge = record_too_large
number_of DivisionByZero = division_by_zero
number_of NoConstant = no_constant
number_of NotOneDeclaration = not_one_declaration
number_of FixedEnum = fixed_enum
number_of LayoutOverflow = layout_overflow
number_of LimitPassed = limit_passed

-- The code answers with a value or a refusal, as the definition does.
abbrev pub answer : {X : Type 0} → Result X Refusal → Answer X
answer (Ok x) = got x
answer (Err e) = refused (number_of e.reason) e.at

-- the same of a value that means one of the definition's
abbrev pub answer_by : {X Y : Type 0} → (X → Y) → Result X Refusal → Answer Y
answer_by f (Ok x) = got (f x)
answer_by f (Err e) = refused (number_of e.reason) e.at
