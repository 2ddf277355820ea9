use Rattle.pg_migrating.proofs.AnswerLaws.{told_by}
use Rattle.pg_migrating.proofs.lock.MigrationLock+C.poll_lock.Goals as goal

pub returns-in-Pending-clause-tells : goal.returns-in-Pending-clause-tells
returns-in-Pending-clause-tells g c first s = (s.0, s.1, s.2, c.in-Pending.ensures.tells s.1 s.0 s.3)

pub returns-in-Ready-clause-tells : goal.returns-in-Ready-clause-tells
returns-in-Ready-clause-tells g c first s = (s.0, s.1, s.2, told_by g.C.L.Link.seen s.1 s.0 (g.C.PgExecutor.conn c.poll_end.new.self.conn) c.in-Ready.end c.told.result c.told.ensures (c.in-Ready.ensures.tells s.1 s.0 s.3))
