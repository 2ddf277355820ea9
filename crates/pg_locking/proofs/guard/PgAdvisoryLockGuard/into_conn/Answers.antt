use Rattle.std.proofs.Common.{Some}
use Rattle.pg_conn.specs.Connections.{ConnOf}
use Rattle.pg_conn.specs.Holding.{took_held}
use Rattle.pg_locks.specs.Locks.{unlock_query}
use Rattle.pg_locking.specs.declared.guard.HeldLock.{HeldLock}
use Rattle.pg_locking.proofs.HeldLaws.{spent}
use Rattle.pg_locking.proofs.guard.PgAdvisoryLockGuard.into_conn.Goals as goal

pub returns : goal.returns
returns g c =
    spent g.C.PgExecutor.conn g.C.PgExecutor.with_conn (λ (lock : HeldLock) (w : ConnOf _). took_held (Some (unlock_query lock.key)) w) c.args.self.conn c.args.self.lock c.into_parts-conn.result c.drop_on.new.conn c.into_parts-conn.ensures c.drop_on.ensures
