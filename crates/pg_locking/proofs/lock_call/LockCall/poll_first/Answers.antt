use Rattle.pg_locking.proofs.CallLaws.{prepare_calls, prepares_first}
use Rattle.pg_locking.proofs.lock_call.LockCall.poll_first.Goals as goal

pub poll_prepare-requires-clause-calling : goal.poll_prepare-requires-clause-calling
poll_prepare-requires-clause-calling g c = prepare_calls c.args.self.now.key c.args.conn.now c.prepare.new.conn c.in-Ok.ensures.ok

pub returns-in-Ok-clause-polls : goal.returns-in-Ok-clause-polls
returns-in-Ok-clause-polls g c =
    prepares_first g.L.Link.seen c.args.self.now.key c.args.conn.now c.prepare.new.conn c.poll_prepare.new.conn c.poll_prepare.new.self.stage c.poll_prepare.result c.in-Ok.ensures.ok c.poll_prepare.ensures.polls
