use Rattle.std.proofs.Common.{refl, arith}
use Rattle.printing.proofs.Writing.{no_word, a_word, last_word, words_as}
use Rattle.line_format.specs.Parts.{details_of}
use Rattle.line_format.proofs.Rows.{set_word, no_details, name_alone}
use Rattle.line_format.proofs.put_details.Goals as goal

pub returns : goal.returns
returns c = words_as no_word (no_details _ _ (omega arith) (λ e. omega arith))

pub returns-in-1 : goal.returns-in-1
unfolding details_of
returns-in-1 c = words_as (last_word (rw c.sign_word.ensures at c.next.ensures)) (rw c.in-1.is refl)

pub returns-in-4 : goal.returns-in-4
unfolding details_of
returns-in-4 c = words_as (last_word c.next-in-4.ensures) (rw c.in-4.is refl)

pub returns-in-5 : goal.returns-in-5
unfolding details_of
returns-in-5 c = words_as (a_word c.next-in-5.ensures (last_word (rw (c.then_some.ensures, set_word _ _) at c.next-in-5-2.ensures))) (rw c.in-5.is refl)

pub returns-in-9 : goal.returns-in-9
unfolding details_of
returns-in-9 c = words_as (a_word (rw (c.then_some-in-9.ensures, set_word _ _) at c.next-in-9.ensures) (last_word (rw c.dots.ensures at c.next-in-9-2.ensures))) (rw c.in-9.is refl)

pub returns-in-10 : goal.returns-in-10
unfolding details_of
returns-in-10 c = words_as (a_word c.next-in-10.ensures (last_word c.next-in-10-2.ensures)) (rw c.in-10.is refl)

pub returns-in-11 : goal.returns-in-11
unfolding details_of
returns-in-11 c = words_as (a_word c.next-in-11.ensures (last_word (rw c.letters.ensures at c.next-in-11-2.ensures))) (rw c.in-11.is refl)

pub returns-then-kind-lt4 : goal.returns-then-kind-lt4
returns-then-kind-lt4 c = words_as no_word (no_details _ _ (omega arith) (λ e. omega arith))

pub returns-in_default : goal.returns-in_default
returns-in_default c = words_as (last_word c.next-in_default.ensures) (name_alone _ _ (omega arith) (λ e. omega arith) (λ e. omega arith) (λ e. omega arith))
