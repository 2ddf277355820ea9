use Rattle.pg_copying.proofs.DropLaws.{fails_once}
use Rattle.pg_copying.proofs.drops.a_copy_that_is_dropped.Goals as goal

pub returns : goal.returns
returns g c = rw (c.into_conn.ensures, g.met.C.PgExecutor.written c.args.copy.conn _) (fails_once (g.C.PgExecutor.conn c.args.copy.conn) c.requires.open c.requires.queued)
