use Rattle.std.proofs.Common.{None}
use Rattle.pg_conn.specs.Connections.{ConnOf}
use Rattle.pg_conn.specs.Holding.{took_held}
use Rattle.pg_locking.specs.declared.guard.HeldLock.{HeldLock}
use Rattle.pg_locking.proofs.HeldLaws.{spent}
use Rattle.pg_locking.proofs.guard.PgAdvisoryLockGuard.leak.Goals as goal

pub returns : goal.returns
returns g c =
    spent g.C.PgExecutor.conn g.C.PgExecutor.with_conn (λ (lock : HeldLock) (w : ConnOf _). took_held None w) c.args.self.conn c.args.self.lock c.into_parts-conn.result c.leak_on.new.conn c.into_parts-conn.ensures c.leak_on.ensures
