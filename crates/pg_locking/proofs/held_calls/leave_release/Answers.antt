use Rattle.pg_locking.specs.Flags.{left_releasing}
use Rattle.pg_locking.proofs.HeldLaws.{lent}
use Rattle.pg_locking.proofs.held_calls.leave_release.Goals as goal

pub returns : goal.returns
returns g c = lent g.C.PgExecutor.with_conn (λ conn. left_releasing c.args.call.key c.args.call.asking conn) c.args.holder _ _ _ c.leave_release.ensures c.conn_mut.ensures.value
