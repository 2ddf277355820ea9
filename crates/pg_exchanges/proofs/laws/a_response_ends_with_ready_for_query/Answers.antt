use Rattle.pg_exchanges.proofs.ExpectingLaws.{ends_ready}
use Rattle.pg_exchanges.proofs.laws.a_response_ends_with_ready_for_query.Goals as goal

pub returns-clause-ends : goal.returns-clause-ends
returns-clause-ends c = ends_ready
