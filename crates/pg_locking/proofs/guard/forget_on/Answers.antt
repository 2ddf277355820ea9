use Rattle.std.proofs.Common.{None}
use Rattle.pg_conn.specs.Holding.{took_held}
use Rattle.pg_locking.proofs.HeldLaws.{lent}
use Rattle.pg_locking.proofs.guard.forget_on.Goals as goal

pub returns : goal.returns
returns g c = lent g.C.PgExecutor.with_conn (λ conn. took_held None conn) c.args.holder.now _ _ _ c.take_held.ensures.now c.conn_mut.ensures.value
