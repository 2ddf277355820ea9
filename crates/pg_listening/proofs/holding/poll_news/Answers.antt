use Rattle.pg_listening.proofs.HeldLaws.{polls_held}
use Rattle.pg_listening.proofs.holding.poll_news.Goals as goal

pub returns-clause-polls : goal.returns-clause-polls
returns-clause-polls g c =
    let conn = g.C.PgExecutor.conn in
    let poll = c.poll_notification_within in
    polls_held g.C.L.Link.seen c.args.left.now poll.new.left (conn c.args.holder.now) c.conn_mut.result.now (conn (g.C.PgExecutor.with_conn c.args.holder.now poll.new.self)) poll.new.self poll.result
    c.conn_mut.ensures.value (g.met.C.PgExecutor.written c.args.holder.now poll.new.self) poll.ensures
