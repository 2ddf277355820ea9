use Rattle.pg_conn.proofs.StateLaws.{poll_fits}
use Rattle.pg_conn.proofs.connection.PgConnection.poll_with.Goals as goal

pub returns-in-None-clause-fits : goal.returns-in-None-clause-fits
returns-in-None-clause-fits g c kind i =
    poll_fits g.L.Link.seen c.args.self.now c.poll_call-in-None.new.self kind c.poll_call-in-None.result c.poll_call-in-None.ensures (rw (← c.in-None.ensures.value) at i)
