use Rattle.std.proofs.Common.{rules, sym, ◌∙◌, arith}
use Rattle.definition.specs.Listing.{member_line, value_line, param_line}
use Rattle.definition.specs.Table.{row_at}
use Rattle.table.specs.Held.{member_at, value_at, parameter_at, no_member, no_value, no_parameter}
use Rattle.printing.proofs.Writing.{nothing, as_is, keeps_still}
use Rattle.listing.proofs.Rows.{members-under, values-under, params-under, nothing-under}
use Rattle.listing.proofs.Carried.{entries-listed}
use Rattle.listing.proofs.sub_lines.Goals as goal

pub returns-in-8 : goal.returns-in-8
returns-in-8 c = record {
  kept = c.entry_lines.ensures.kept (λ i p q l. search rules);
  of = λ s h.
      as_is
      (c.entry_lines.ensures.of (λ i. (value_at s i).row) (λ i. value_line c.args.text.now (value_at s i))
      (λ i k r. let w = h.words in search rules)
      (λ i p q l. let w = h.words in let d = h.signeds in search rules))
      (entries-listed (λ e. e.row) (value_line _) _ s.values no_value (c.row_count.ensures.of s h.words) (c.row_first.ensures.of s h.words) h.counts.values
      ∙ sym (values-under _ s c.args.row (row_at s c.args.row) (c.row_kind-kind.ensures.of s h.words) c.in-8.is));
}

pub returns-in-9 : goal.returns-in-9
returns-in-9 c = record {
  kept = c.entry_lines-in-9.ensures.kept (λ i p q l. search rules);
  of = λ s h.
      as_is
      (c.entry_lines-in-9.ensures.of (λ i. (parameter_at s i).row) (λ i. param_line c.args.text.now (parameter_at s i))
      (λ i k r. let w = h.words in search rules)
      (λ i p q l. let w = h.words in search rules))
      (entries-listed (λ e. e.row) (param_line _) _ s.parameters no_parameter (c.row_count-in-9.ensures.of s h.words) (c.row_first-in-9.ensures.of s h.words) h.counts.parameters
      ∙ sym (params-under _ s c.args.row (row_at s c.args.row) (c.row_kind-kind.ensures.of s h.words) c.in-9.is));
}

pub returns-then-kind-lt6 : goal.returns-then-kind-lt6
returns-then-kind-lt6 c = record { kept = keeps_still; of = λ s h. as_is nothing (sym (nothing-under _ s c.args.row (row_at s c.args.row) (c.row_kind-kind.ensures.of s h.words) (λ e. omega arith) (λ e. omega arith) (λ e. omega arith) (λ e. omega arith))) }

pub returns-in-6 : goal.returns-in-6
returns-in-6 c = record {
  kept = c.entry_lines-in-6.ensures.kept (λ i p q l. search rules);
  of = λ s h.
      as_is
      (c.entry_lines-in-6.ensures.of (λ i. (member_at s i).row) (λ i. member_line c.args.text.now (member_at s i))
      (λ i k r. let w = h.words in search rules)
      (λ i p q l. let w = h.words in let d = h.wides in search rules))
      (entries-listed (λ e. e.row) (member_line _) _ s.members no_member (c.row_count-in-6.ensures.of s h.words) (c.row_first-in-6.ensures.of s h.words) h.counts.members
      ∙ sym (members-under _ s c.args.row (row_at s c.args.row) (c.row_kind-kind.ensures.of s h.words) (omega arith) (omega arith)));
}

pub returns-else-kind-lt8 : goal.returns-else-kind-lt8
returns-else-kind-lt8 c = record { kept = keeps_still; of = λ s h. as_is nothing (sym (nothing-under _ s c.args.row (row_at s c.args.row) (c.row_kind-kind.ensures.of s h.words) (λ e. omega arith) (λ e. omega arith) (λ e. omega arith) (λ e. omega arith))) }
