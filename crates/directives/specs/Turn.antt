-- `object_like_macro` byte by byte: what a # line must still have to be kept, by how far it was read.
use Rattle.std.specs.Prelude.{◌≡◌, Bool, true, false, ◌&&◌, [], ℕ, ◌≤◌, ◌<◌, length, drop}
use Rattle.definition.specs.Answer.{Answer, got, refused}
use Rattle.definition.specs.Refusal.{macro_line}
use Rattle.definition.specs.Text.{Bytes, bytes, byte_at}
use Rattle.definition.specs.Class.{is_blank}
use Rattle.definition.specs.Scan.{before, starts_with}
use Rattle.definition.specs.Directive.{past_blanks, says_something, ends_word, is_body, is_name_and_body, directive, is_macro}
use Rattle.directives.specs.declared.Decided.{Decided}
use Rattle.directives.specs.declared.State.{State}
use Rattle.directives.specs.declared.State.TheVariants.{BeforeWord, InDefine, BeforeName, InName, InBody, Kept, Dropped}

-- what is left of a word, then a blank, a name and a body
unfoldable pub wants : Bytes → Bytes → Bool
wants w bs = elim (starts_with w bs && is_blank (byte_at bs (length w))) [ true ↦ is_name_and_body (past_blanks (drop (length w) bs)) | false ↦ false ]

abbrev pub wanted : State → Bytes → Bool
wanted BeforeWord bs = is_macro bs
wanted (InDefine read) bs = wants (drop read (bytes "define")) bs
wanted BeforeName bs = is_name_and_body (past_blanks bs)
wanted InName bs = is_body (drop (before ends_word bs) bs)
wanted InBody bs = says_something bs
wanted Kept bs = true
wanted Dropped bs = false

-- what the code reads of the # line whose # stands at an offset
pub record Reads (text : Bytes) (at : ℕ) (r : State × ℕ) : Type 0 where
  pub keeps : wanted r.0 [] ≡ is_macro (directive text at).line
  pub next : r.1 ≡ (directive text at).next
  pub on : at < r.1
  pub inside : r.1 ≤ length text

-- what is decided of the # line whose # stands at an offset
pub record Decides (text : Bytes) (at : ℕ) (d : Decided) : Type 0 where
  pub keeps : d.keeps ≡ is_macro (directive text at).line
  pub next : d.next ≡ (directive text at).next
  pub on : at < d.next
  pub inside : d.next ≤ length text

-- that line is skipped, or refused
abbrev pub skipped : Bytes → ℕ → Answer ℕ
skipped text at = elim (is_macro (directive text at).line) [ true ↦ refused macro_line at | false ↦ got (directive text at).next ]
