-- Texts cut into tokens, computed.
use Rattle.std.specs.Prelude.{◌≡◌, refl, List, [], ◌∷◌, ◌++◌, ℕ}
use Prim.Native.String.{String}
use Rattle.definition.specs.Answer.{Answer, got, refused, ◌>>=◌}
use Rattle.definition.specs.Text.{Bytes, bytes, same}
use Rattle.definition.specs.Class.{among, is_blank_byte, is_letter_byte, is_digit_byte, mark_bytes, class_of, is_blank, is_word_byte}
use Rattle.definition.specs.Scan.{begins, before, starts_with, contains}
use Rattle.definition.specs.Place.{after, after_all, place_of}
use Rattle.definition.specs.Word.{attribute_words, keywords, builtin_names, words, kind_among, kind_of}
use Rattle.definition.specs.Mark.{two_byte_marks, one_byte_marks, mark_among, short_mark, mark_of, mark_at}
use Rattle.definition.specs.Comment.{joins, opens_line_comment, opens_comment, ends_line, line_length, ends_comment, comment_end, after_comment}
use Rattle.definition.specs.Directive.{line_from, directive, past_blanks, says_something, ends_word, is_body, is_name_and_body, is_macro}
use Rattle.definition.specs.Attribute.{not_blank, in_parens, changes_layout, parenthesized, attribute_at}
use Rattle.definition.specs.Number.{is_number_byte, ends_number, digit_value, suffix_bytes, body_length, base_of, are_digits, value_from, in_range, digits_value, body_value, number_value}
use Rattle.definition.specs.Character.{ends_hex, escaped, hex_byte, escape, one_byte, bytes_from, character_at}
use Rattle.definition.specs.Quoted.{in_quotes, after_string}
use Rattle.definition.specs.Name.{name_of}
use Rattle.definition.specs.Spelling.{known_name}
use Rattle.definition.specs.Token.{Lexed, columns}
use Rattle.definition.specs.Kind as kind
use Rattle.definition.specs.Kind.{is_name}
use Rattle.definition.specs.Cut.{skip_to, new_line, drop_to, push, meet, push_name, push_attribute, cut_word_of, word_at, cut_word, number_word, cut_number, cut_character, cut_string, cut_mark, cut_token, cut_directive, cut_comment, cut_other, cut_next, cut_all, cut, above_ascii, check_bytes, tokenize}

-- what a text gives: its tokens' kinds, places and numbers, or a refusal
data Says : Type 0 where
  tokens : List ℕ → List ℕ → List ℕ → Says
  refusal : ℕ → ℕ → Says

abbrev says : Answer Lexed → Says
says (got x) = tokens x.tokens.kinds x.places x.tokens.numbers
says (refused n at) = refusal n at

cut_text : Bytes → Says
unfolding ◌>>=◌ bytes same among is_blank_byte is_letter_byte is_digit_byte mark_bytes class_of is_blank is_word_byte begins before starts_with contains after after_all place_of attribute_words keywords builtin_names words kind_among kind_of two_byte_marks one_byte_marks mark_among short_mark mark_of mark_at joins opens_line_comment opens_comment ends_line line_length ends_comment comment_end after_comment line_from directive past_blanks says_something ends_word is_body is_name_and_body is_macro not_blank in_parens changes_layout parenthesized attribute_at is_number_byte ends_number digit_value suffix_bytes body_length base_of are_digits value_from in_range digits_value body_value number_value ends_hex escaped hex_byte escape one_byte bytes_from character_at in_quotes after_string name_of known_name columns is_name skip_to new_line drop_to push meet push_name push_attribute cut_word_of word_at cut_word number_word cut_number cut_character cut_string cut_mark cut_token cut_directive cut_comment cut_other cut_next cut_all cut above_ascii check_bytes tokenize
cut_text text = says (tokenize text)

-- each text with what it gives
record Example : Type 0 where
  text : Bytes
  gives : Says

abbrev ex : String → Says → Example
ex s g = record { text = bytes s; gives = g }

abbrev refuses : String → ℕ → ℕ → Example
refuses s n at = ex s (refusal n at)

-- the one number that a text gives
abbrev numbers : String → ℕ → Example
numbers s n = ex s (tokens (kind.number ∷ []) (0 ∷ []) (n ∷ []))

texts : List Example → List Says
unfolding bytes cut_text
texts [] = []
texts (e ∷ es) = cut_text e.text ∷ texts es

answers : List Example → List Says
answers [] = []
answers (e ∷ es) = e.gives ∷ answers es

abbrev examples : List Example
examples =
    ex "" (tokens [] [] [])
    ∷ ex "int a_1[3];" (tokens (kind.int_word ∷ kind.identifier ∷ kind.open_bracket ∷ kind.number ∷ kind.close_bracket ∷ kind.semicolon ∷ [])
    (0 ∷ 4 ∷ 7 ∷ 8 ∷ 9 ∷ 10 ∷ []) (0 ∷ name_of 4 3 ∷ 0 ∷ 3 ∷ 0 ∷ 0 ∷ []))
    -- one spelling, one name; a keyword in each of its spellings
    ∷ ex "b a __const b const bool" (tokens (kind.identifier ∷ kind.identifier ∷ kind.const_word ∷ kind.identifier ∷ kind.const_word ∷ kind.bool_name ∷ [])
    (0 ∷ 2 ∷ 4 ∷ 12 ∷ 14 ∷ 20 ∷ []) (name_of 0 1 ∷ name_of 2 1 ∷ 0 ∷ name_of 0 1 ∷ 0 ∷ name_of 20 4 ∷ []))
    -- 3
    ∷ record { text = bytes "int " ++ 200 ∷ bytes "#define N 6"; gives = refusal 3 4 }
    ∷ record { text = bytes "@" ++ 128 ∷ []; gives = refusal 3 1 }
    -- 4, and # lines that are skipped
    ∷ refuses "#define N 6" 4 0
    ∷ refuses "/* a\n */ # define\tN /* */ (6)" 4 9
    ∷ refuses "int\n  #\\\ndefine N 6" 4 6
    ∷ refuses "#define N 6 /*" 4 0
    ∷ refuses "#define N (6)" 4 0
    ∷ ex "#define N /*" (tokens [] [] [])
    ∷ ex "#define N(x) x\n#define N \\\n\n#include <a>\n#define 6 7\n#defined N 6\n#define N // 6\n;" (tokens (kind.semicolon ∷ []) (81 ∷ []) (0 ∷ []))
    ∷ ex "#if /* \n */ 0 // 1\n;" (tokens (kind.semicolon ∷ []) (19 ∷ []) (0 ∷ []))
    ∷ refuses "int #define N 6" 7 4
    ∷ refuses "asm(\n) #define N 6" 7 7
    ∷ refuses ";/*\n*/#define N 6" 7 6
    -- 5
    ∷ refuses "/*" 5 2
    ∷ refuses "/* ab" 5 4
    ∷ refuses "/*/" 5 2
    ∷ refuses " \"a\\\"" 5 1
    ∷ refuses "a asm ((1)" 5 2
    ∷ ex "/**/\"a\\\"\"/*/ */" (tokens (kind.text ∷ []) (4 ∷ []) (0 ∷ []))
    -- attributes
    ∷ ex "__attribute__ ((xpackedy)) asm a" (tokens (kind.attribute ∷ kind.identifier ∷ []) (0 ∷ 31 ∷ []) (0 ∷ name_of 31 1 ∷ []))
    ∷ ex "__attribute__((noreturn)) asm /**/ (packed)" (tokens (kind.open_paren ∷ kind.identifier ∷ kind.close_paren ∷ []) (35 ∷ 36 ∷ 42 ∷ []) (0 ∷ name_of 36 6 ∷ 0 ∷ []))
    -- 6, 8 and numbers
    ∷ refuses "int a[08];" 6 6
    ∷ refuses "0x" 6 0 ∷ refuses "0xL" 6 0 ∷ refuses "0b" 6 0 ∷ refuses "0b2" 6 0 ∷ refuses "1.5" 6 0 ∷ refuses "1e3" 6 0 ∷ refuses "1_0" 6 0 ∷ refuses "1lx" 6 0 ∷ refuses "1l.u" 6 0
    ∷ numbers "0" 0 ∷ numbers "0u" 0 ∷ numbers "00" 0 ∷ numbers "017" 15 ∷ numbers "0XfFuLLz" 255 ∷ numbers "0B101" 5 ∷ numbers "42uUlLzZ" 42
    ∷ numbers "9223372036854775807" 9223372036854775807 ∷ refuses "9223372036854775808" 8 0 ∷ refuses "99999999999999999999999999999999999999999999" 8 0
    ∷ refuses "9999999999999999999999999999999999999999999x" 6 0 ∷ numbers "0x7fffffffffffffff" 9223372036854775807 ∷ refuses "0x8000000000000000" 8 0
    -- character constants
    ∷ numbers "'a'" 97 ∷ numbers "'\\n'" 10 ∷ numbers "'\\0'" 0 ∷ numbers "'\\''" 39 ∷ numbers "'\\\\'" 92 ∷ numbers "'\\q'" 113 ∷ numbers "'ab'" 24930 ∷ numbers "'\\12'" 12594
    ∷ numbers "'\\x141'" 65 ∷ numbers "'\\x0000000000000000000000000000000000000000ff'" 255 ∷ numbers "'\\x7fffffffffffffffffffffffffffffff'" 255
    ∷ refuses "'\\x80000000000000000000000000000000'" 6 0 ∷ refuses "'\\xg'" 6 0 ∷ refuses "''" 6 0 ∷ refuses "'a" 6 0 ∷ refuses "'\\" 6 0 ∷ refuses "'" 6 0
    ∷ numbers "'12345678'" 3544952156018063160 ∷ refuses "'\\x80ggggggg'" 8 0 ∷ numbers "'\\0\\0\\0\\0\\0\\0\\0\\0\\0a'" 97 ∷ refuses "'123456789" 6 0
    -- 7 and marks
    ∷ refuses "int @;" 7 4 ∷ refuses "$" 7 0 ∷ refuses "a \\ b" 7 2
    ∷ ex "...<<=" (tokens (kind.ellipsis ∷ kind.shift_left ∷ kind.equals ∷ []) (0 ∷ 3 ∷ 5 ∷ []) (0 ∷ 0 ∷ 0 ∷ []))
    ∷ ex "..--!==" (tokens (kind.dot ∷ kind.dot ∷ kind.minus ∷ kind.minus ∷ kind.not_equal ∷ kind.equals ∷ []) (0 ∷ 1 ∷ 2 ∷ 3 ∷ 4 ∷ 6 ∷ []) (0 ∷ 0 ∷ 0 ∷ 0 ∷ 0 ∷ 0 ∷ []))
    ∷ []

computed : texts examples ≡ answers examples
unfolding texts answers cut_text bytes name_of
computed = refl

-- lines and columns
places : (place_of (bytes "ab\n\nc") 0 ≡ record { line = 1; column = 1 }) × (place_of (bytes "ab\n\nc") 2 ≡ record { line = 1; column = 3 })
    × (place_of (bytes "ab\n\nc") 3 ≡ record { line = 2; column = 1 }) × (place_of (bytes "ab\n\nc") 5 ≡ record { line = 3; column = 2 })
    × (place_of (bytes "ab\n\nc") 9 ≡ record { line = 3; column = 2 })
unfolding bytes place_of after_all after
places = (refl, refl, refl, refl, refl)
