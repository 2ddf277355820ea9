use Rattle.pg_locking.proofs.CallLaws.{flag_calls, flag_first}
use Rattle.pg_locking.proofs.flag_call.FlagCall.poll_first.Goals as goal

pub poll_on-requires-clause-calling : goal.poll_on-requires-clause-calling
poll_on-requires-clause-calling g c = flag_calls c.args.self.now.key c.args.self.now.holds c.args.conn.now c.begin.new.conn c.in-Ok.ensures.ok

pub returns-in-Ok-clause-polls : goal.returns-in-Ok-clause-polls
returns-in-Ok-clause-polls g c =
    flag_first g.L.Link.seen c.args.self.now.key c.args.self.now.holds c.args.conn.now c.begin.new.conn c.poll_on.new.conn c.poll_on.new.self.asking c.poll_on.result c.in-Ok.ensures.ok c.poll_on.ensures.polls
