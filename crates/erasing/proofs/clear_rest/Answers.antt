use Rattle.erasing.proofs.Ends.{rest_out}
use Rattle.erasing.proofs.clear_rest.Goals as goal

pub returns : goal.returns
returns c = rest_out c.clear_parameters.ensures c.clear_declarations.ensures c.clear_names.ensures
