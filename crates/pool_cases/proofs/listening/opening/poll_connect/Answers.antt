use Rattle.pool_cases.proofs.CallLaws.{still_connecting}
use Rattle.pool_cases.proofs.listening.opening.poll_connect.Goals as goal

pub loop-preserved : goal.loop-preserved
loop-preserved g c = record {
  over = c.in-Pending.ensures.over;
  listener = still_connecting g.B.L.Link.seen g.B.Held.PgExecutor.conn g.B.Held.PgExecutor.with_conn g.B.ConnectionSource.filling g.B.ConnectionSource.now _ c.poll.new.self.listener c.in-Pending.ensures.connects;
}
