use Rattle.pg_conn.proofs.TurnLaws.{unresolved}
use Rattle.pg_conn.proofs.connection.PgConnection.poll_on.Goals as goal

pub returns-in-Err-clause-polled : goal.returns-in-Err-clause-polled
returns-in-Err-clause-polled g c = unresolved g.L.Link.seen c.args.self.now c.resolve.new.self c.in-Err.e c.requires c.in-Err.ensures.err.1 c.in-Err.ensures.err.0
