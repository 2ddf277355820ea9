use Rattle.pg_locking.specs.Flags.{left_asking}
use Rattle.pg_locking.proofs.HeldLaws.{lent}
use Rattle.pg_locking.proofs.held_calls.leave_flag.Goals as goal

pub returns : goal.returns
returns g c = lent g.C.PgExecutor.with_conn (λ conn. left_asking c.args.call.holds c.args.call.asking conn) c.args.holder _ _ _ c.leave.ensures c.conn_mut.ensures.value
