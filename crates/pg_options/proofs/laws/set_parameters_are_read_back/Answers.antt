use Rattle.pg_options.proofs.SwitchLaws.{read_back}
use Rattle.pg_options.proofs.laws.set_parameters_are_read_back.Goals as goal

pub returns : goal.returns
returns c = read_back
