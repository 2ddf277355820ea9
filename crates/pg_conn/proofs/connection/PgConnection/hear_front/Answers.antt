use Rattle.pg_conn.proofs.FrontLaws.{hears_by}
use Rattle.pg_conn.proofs.connection.PgConnection.hear_front.Goals as goal

pub returns-clause-hears : goal.returns-clause-hears
returns-clause-hears g c =
    let e = c.take.ensures in
    let f = c.body.ensures in
    rw (← c.self.view_is) (c.body.result.now, f.0, f.1, hears_by c.args.front.tag c.body.result.now _ _ c.take.result e.ok e.copy e.goes e.stays e.err e.ledger)
