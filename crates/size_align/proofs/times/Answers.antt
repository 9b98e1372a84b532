use mathlib.Core.Path.{refl, ap, ◌∙◌}
use Prim.Native.Nat.{◌^◌}
use native.Mathlib.Omega.{arith}
use Rattle.size_align.specs.declared.Size.TheVariants.{Known}
use Rattle.size_align.proofs.Told.{known!, big!, some-big, times-is}
use Rattle.size_align.proofs.times.Goals as goal

pub returns-in-Some : goal.returns-in-Some
returns-in-Some c = record { of = λ o h. times-is o h _ c.in-Known.is (ap Known c.in-Some.ensures.1 ∙ known! _ c.in-Some.ensures.0) }

pub returns-in-None : goal.returns-in-None
returns-in-None c = record { of = λ o h. times-is o h _ c.in-Known.is (big! _ (omega (arith, c.in-None.ensures))) }

pub returns-in-Big : goal.returns-in-Big
returns-in-Big c = record { of = λ o h. times-is o h _ c.in-Big.is (some-big (2 ^ 64) c.args.bound c.if-bound-ne0.true) }

pub returns-in-Big-2 : goal.returns-in-Big-2
returns-in-Big-2 c = record { of = λ o h. times-is o h _ c.in-Big-2.is (rw c.if-bound-ne0.false) }

pub returns-in-Unknown : goal.returns-in-Unknown
returns-in-Unknown c = record { of = λ o h. times-is o h _ c.in-Unknown.is refl }
