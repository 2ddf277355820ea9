use Rattle.cases.proofs.CallLaws.{still_asked}
use Rattle.cases.proofs.migrating.calls.run.Goals as goal

pub loop-preserved : goal.loop-preserved
loop-preserved g c = record {
  over = still_asked c.poll.new.self.asking.question (g.C.PgExecutor.conn c.poll.new.self.asking.conn) c.in-Pending.ensures.asked c.in-Pending.ensures.calling;
  calling = rw c.in-Pending.ensures.asked c.in-Pending.ensures.calling;
}
