use Rattle.pg_conn.proofs.FirstLaws.{filled_run}
use Rattle.pg_conn.proofs.connection.PgConnection.filled_bound.Goals as goal

pub returns-clause-ok : goal.returns-clause-ok
returns-clause-ok g c = rw (← c.self.view_is) (filled_run c.self.inside.learnt.types c.args.bound c.in_ok-filled.filled c.args.bound.arguments.holes c.holes.result.now c.in_ok-oids.oids c.as_slice.result.now c.holes.ensures c.in_ok-oids.ensures.known c.in_ok-oids.ensures.oids c.as_slice.ensures c.in_ok-filled.ensures.filled)
