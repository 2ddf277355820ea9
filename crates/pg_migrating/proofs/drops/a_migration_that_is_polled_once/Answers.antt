use Rattle.pg_migrating.proofs.DropLaws.{left_behind}
use Rattle.pg_migrating.proofs.drops.a_migration_that_is_polled_once.Goals as goal

pub returns : goal.returns
returns g c =
    let s = c.apply-state.ensures in
    let p = c.poll-answer.ensures in
    let d = c.poll-answer.new.self in (
      g.C.PgExecutor.conn d.asking.conn,
      d.course,
      d.clock.now,
      rw s.work at (p.tells (g.C.PgExecutor.conn c.args.conn) c.args.clock.now s.stands),
      rw s.conn at (left_behind g.C.PgExecutor.conn g.C.PgExecutor.with_conn g.met.C.PgExecutor.overwritten c.apply-state.result.asking.conn d.asking.conn c.into_conn.result d.course.is_open d.asking.question p.holder p.asked c.into_conn.ensures),
    )
