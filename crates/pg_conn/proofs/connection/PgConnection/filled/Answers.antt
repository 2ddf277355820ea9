use Rattle.pg_conn.specs.Looking.{holes_for}
use Rattle.pg_conn.proofs.FirstLaws.{filled_so}
use Rattle.pg_conn.proofs.connection.PgConnection.filled.Goals as goal

pub returns-clause-ok : goal.returns-clause-ok
returns-clause-ok g c = rw (← c.self.view_is) (filled_so c.self.inside.learnt.types c.args.extended c.in_ok-filled.filled (holes_for c.args.extended.goal c.args.extended.arguments) c.holes_for-holes.result.now c.in_ok-oids.oids c.as_slice.result.now c.holes_for-holes.ensures c.in_ok-oids.ensures.known c.in_ok-oids.ensures.oids c.as_slice.ensures c.in_ok-filled.ensures.filled)
