use Rattle.pg_guards.proofs.HolderLaws.{due_behind}
use Rattle.pg_guards.proofs.drops.a_commit_that_is_polled_once.Goals as goal

pub returns : goal.returns
returns g c =
    let s = c.commit-state.ensures in (
      g.C.PgExecutor.conn c.poll-answer.new.self.conn,
      rw (s.conn, s.request) at c.poll-answer.ensures.polls,
      rw (s.conn, s.due) at (due_behind g.C.PgExecutor.conn g.C.PgExecutor.with_conn g.met.C.PgExecutor.overwritten c.commit-state.result.conn c.poll-answer.new.self.conn c.into_conn.result _ _ c.poll-answer.ensures.holder c.poll-answer.ensures.due c.into_conn.ensures),
    )
