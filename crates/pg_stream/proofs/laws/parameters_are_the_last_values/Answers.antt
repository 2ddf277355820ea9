use Rattle.pg_stream.proofs.ParameterLaws.{keeps_last}
use Rattle.pg_stream.proofs.laws.parameters_are_the_last_values.Goals as goal

pub returns : goal.returns
returns c = keeps_last
