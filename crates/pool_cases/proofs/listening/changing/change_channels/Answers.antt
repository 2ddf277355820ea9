use Rattle.pool_cases.proofs.CallLaws.{still_changing}
use Rattle.pool_cases.proofs.listening.changing.change_channels.Goals as goal

pub loop-preserved : goal.loop-preserved
loop-preserved g c = record {
  over = c.in-Pending.ensures.over;
  goes = still_changing c.poll.new.self.change c.poll.new.self.listener.now.hearing c.in-Pending.ensures.begun c.in-Pending.ensures.changes.2;
}
