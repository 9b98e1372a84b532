-- What the answers of this crate mean: the definition's values, and document 01's number for each case.
use Rattle.std.specs.Prelude.{ℕ, max, Option, Some, None, Result, Ok, Err}
use Rattle.definition.specs.Answer.{Answer, got, refused}
use Rattle.definition.specs.Refusal.{layout_overflow}
use Rattle.definition.specs.Table.{Member}
use Rattle.definition.specs.Layout.{located}
use Rattle.definition.specs.Layout as layout
use Rattle.encoding.specs.Refusals.{number_of}
use Rattle.encoding.specs.declared.refusals.Reason.{Reason}
use Rattle.encoding.specs.declared.refusals.Reason.TheVariants as reasons
use Rattle.layout_arithmetic.specs.declared.Laid.{Laid}
use Rattle.layout_arithmetic.specs.declared.Placed.{Placed}
use Rattle.layout_arithmetic.specs.declared.SizeError.{SizeError}
use Rattle.layout_arithmetic.specs.declared.SizeError.TheVariants.{TooLarge, Overflow}

-- what has been laid out; an alignment of 0 counts 1
abbrev pub laid_of : Laid → layout.Laid
laid_of l = record { taken = l.taken; align = max l.align 1; widest = l.widest }

-- before the first member
abbrev pub none_laid : Laid
none_laid = record { taken = 0; align = 1; widest = 0 }

-- a number, or the refusal of one that passes 2^64 - 1
unfoldable pub exact : Option ℕ → ℕ → Answer ℕ
exact (Some n) at = got n
exact None at = refused layout_overflow at

-- a member at its place, and what has been laid out with it; a refusal names the place that the member carries
unfoldable pub placed : Option Placed → Member → Answer (Member × layout.Laid)
placed (Some p) e = got (located e p.offset p.bit, laid_of p.laid)
placed None e = refused layout_overflow e.offset

-- the reason of a refusal
abbrev pub reason_of : SizeError → Reason
reason_of TooLarge = reasons.RecordTooLarge
reason_of Overflow = reasons.LayoutOverflow

-- the size of a record whose tag stands at a place
unfoldable pub sized : Result ℕ SizeError → ℕ → Answer ℕ
sized (Ok n) at = got n
sized (Err e) at = refused (number_of (reason_of e)) at
