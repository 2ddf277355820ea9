use Rattle.pg_migrating.proofs.DropLaws.{left_alone}
use Rattle.pg_migrating.proofs.drops.a_migration_that_is_never_polled.Goals as goal

pub returns : goal.returns
returns g c =
    let s = c.apply.ensures in
    left_alone g.C.PgExecutor.conn g.C.PgExecutor.with_conn g.met.C.PgExecutor.unwritten c.args.conn c.apply.result.asking.conn c.into_conn.result c.apply.result.course.is_open c.apply.result.asking.question s.conn s.open s.new c.into_conn.ensures
