use Rattle.pg_wire.proofs.StatusLaws.{error_fails, sync_error_fails}
use Rattle.pg_wire.proofs.laws.error_fails_the_transaction.Goals as goal

pub returns-clause-query : goal.returns-clause-query
returns-clause-query c = error_fails

pub returns-clause-sync : goal.returns-clause-sync
returns-clause-sync c = sync_error_fails
