use Rattle.std.proofs.Common.{refl}
use Rattle.pg_guards.proofs.HolderLaws.{left_behind}
use Rattle.pg_guards.proofs.drops.a_copy_out_that_is_polled_once.Goals as goal

pub returns : goal.returns
returns g c =
    let s = c.copy_out_raw-state.ensures in (
      g.C.PgExecutor.conn c.poll_next-answer.new.self.conn,
      rw (s.conn, s.request) at c.poll_next-answer.ensures.polls,
      rw s.conn at (left_behind g.C.PgExecutor.conn g.C.PgExecutor.with_conn g.met.C.PgExecutor.overwritten c.copy_out_raw-state.result.conn c.poll_next-answer.new.self.conn c.into_conn.result c.poll_next-answer.new.self.request c.poll_next-answer.ensures.holder c.poll_next-answer.ensures.asked c.into_conn.ensures),
    )
