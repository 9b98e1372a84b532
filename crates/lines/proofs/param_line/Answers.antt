use Rattle.table.specs.Held.{parameter_at}
use Rattle.printing.proofs.Writing.{as_is, keeps_written}
use Rattle.lines.proofs.Entries.{parameter-same}
use Rattle.lines.proofs.param_line.Goals as goal

pub returns : goal.returns
returns c = record {
  kept = keeps_written c.put_param.ensures;
  of = λ t h. as_is c.put_param.ensures (parameter-same _ (parameter_at t c.args.i) (c.parameter_type.ensures.of t h) (c.parameter_name.ensures.of t h));
}
