use Rattle.pg_conn.proofs.FrontLaws.{rest_waits, rest_fails, rest_sent}
use Rattle.pg_conn.proofs.connection.PgConnection.send_rest.Goals as goal

pub returns-in-Pending-clause-beat : goal.returns-in-Pending-clause-beat
returns-in-Pending-clause-beat g c = rw (← c.self.view_is) (rest_waits _ _ (rw (← c.self.view_is) at c.requires) c.in-Pending.ensures)

pub returns-in-Ready-Err-clause-beat : goal.returns-in-Ready-Err-clause-beat
returns-in-Ready-Err-clause-beat g c =
    let s = c.stop.ensures in
    rw (s.now, s.beat, ← c.self.view_is) (rest_fails _ _ c.in-Ready-Err.e (rw c.in-Ready-Err.field-0-is at c.in-Ready-Err.ensures))

pub returns-in-Ready-Ok-clause-beat : goal.returns-in-Ready-Ok-clause-beat
returns-in-Ready-Ok-clause-beat g c =
    let s = c.end_sent.ensures in
    rw (s.now, s.beat, ← c.self.view_is) (rest_sent _ _ c.in-Ready-Ok.field-0-0 (rw (← c.self.view_is) at c.requires) (rw c.in-Ready-Ok.field-0-is at c.in-Ready-Ok.ensures))
