use Rattle.pg_locking.proofs.CallLaws.{lock_fits, lock_on}
use Rattle.pg_locking.proofs.lock_call.LockCall.lock.Goals as goal

pub hear_locked-requires-clause-fits : goal.hear_locked-requires-clause-fits
hear_locked-requires-clause-fits g c = lock_fits g.L.Link.seen c.args.self.now.key c.args.conn.now c.run.new.conn c.poll_more-answer.new.self c.poll_more-answer.result c.in-Ok.ensures.ok c.poll_more-answer.ensures

pub returns-in-Ok-clause-locks : goal.returns-in-Ok-clause-locks
returns-in-Ok-clause-locks g c =
    lock_on g.L.Link.seen c.args.self.now.key c.in-Ok.at c.args.conn.now c.run.new.conn c.poll_more-answer.new.self c.hear_locked.new.conn c.poll_more-answer.result c.hear_locked.new.self.stage c.hear_locked.result c.in-Ok.ensures.ok c.in-Ok.ensures.at c.poll_more-answer.ensures c.hear_locked.ensures.hears
