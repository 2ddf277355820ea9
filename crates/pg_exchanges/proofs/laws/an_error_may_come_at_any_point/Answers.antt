use Rattle.pg_exchanges.proofs.ExpectingLaws.{error_within}
use Rattle.pg_exchanges.proofs.laws.an_error_may_come_at_any_point.Goals as goal

pub returns-clause-in_a_step : goal.returns-clause-in_a_step
returns-clause-in_a_step c = error_within
