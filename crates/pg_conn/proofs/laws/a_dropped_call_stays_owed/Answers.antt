use Rattle.pg_conn.proofs.CleanupLaws.{stays_dropped}
use Rattle.pg_conn.proofs.laws.a_dropped_call_stays_owed.Goals as goal

pub returns : goal.returns
returns c = stays_dropped
