use Rattle.pg_conn.proofs.CleanupLaws.{fails_dropped}
use Rattle.pg_conn.proofs.laws.a_dropped_copy_is_failed.Goals as goal

pub returns : goal.returns
returns c = fails_dropped
