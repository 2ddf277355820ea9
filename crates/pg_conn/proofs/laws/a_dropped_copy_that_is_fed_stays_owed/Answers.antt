use Rattle.pg_conn.proofs.CleanupLaws.{owes_dropped}
use Rattle.pg_conn.proofs.laws.a_dropped_copy_that_is_fed_stays_owed.Goals as goal

pub returns : goal.returns
returns c = owes_dropped
