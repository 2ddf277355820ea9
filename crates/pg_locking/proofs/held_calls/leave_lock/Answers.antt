use Rattle.pg_locking.specs.Locking.{left_locking}
use Rattle.pg_locking.proofs.HeldLaws.{lent}
use Rattle.pg_locking.proofs.held_calls.leave_lock.Goals as goal

pub returns : goal.returns
returns g c = lent g.C.PgExecutor.with_conn (λ conn. left_locking c.args.call.key c.args.call.stage conn) c.args.holder _ _ _ c.leave.ensures c.conn_mut.ensures.value
