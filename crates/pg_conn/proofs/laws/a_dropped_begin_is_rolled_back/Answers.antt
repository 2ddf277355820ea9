use Rattle.pg_conn.proofs.CleanupLaws.{rolls_dropped}
use Rattle.pg_conn.proofs.laws.a_dropped_begin_is_rolled_back.Goals as goal

pub returns : goal.returns
returns c = rolls_dropped
