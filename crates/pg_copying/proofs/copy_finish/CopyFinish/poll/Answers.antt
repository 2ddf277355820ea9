use Rattle.pg_conn.specs.Connections.{copied}
use Rattle.pg_conn.proofs.FeedingLaws.{copied_calls}
use Rattle.pg_copying.proofs.copy_finish.CopyFinish.poll.Goals as goal

pub poll_ended-requires-2 : goal.poll_ended-requires-2
poll_ended-requires-2 g c =
    let conn = g.C.PgExecutor.conn in
    let fed = copied_calls (conn c.args.self.now.conn) (rw c.if-self.false at c.requires) in
    rw (c.in-Ok.ensures.ok, g.met.C.PgExecutor.written c.args.self.now.conn (copied (conn c.args.self.now.conn))) fed
