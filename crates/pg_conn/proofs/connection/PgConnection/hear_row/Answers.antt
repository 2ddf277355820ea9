use Rattle.std.proofs.Common.{refl}
use Rattle.pg_conn.proofs.FrontLaws.{hears_row, framed_front, starves_front}
use Rattle.pg_conn.proofs.connection.PgConnection.hear_row.Goals as goal

pub returns-in-Ok-clause-hears : goal.returns-in-Ok-clause-hears
returns-in-Ok-clause-hears g c =
    let e = c.take_row.ensures in
    let frame = c.in-Ok.frame in
    let f = c.in-Ok.ensures.ok in
    rw (← c.self.view_is) (frame.body, f.0, framed_front _ c.args.front frame f.0 f.1, hears_row c.args.front.tag frame.body _ _ c.take_row.result c.requires.tag e.ok e.copy e.goes e.stays e.err e.ledger)

pub returns-in-Err-clause-hears : goal.returns-in-Err-clause-hears
returns-in-Err-clause-hears g c =
    let running = c.self.inside.running in
    let front = rw (← c.self.view_is) at c.requires.front in
    let replied = rw (← c.self.view_is) at c.requires.replied in
    rw (← c.self.view_is) (starves_front c.self.inside.stream.held c.args.front running running front replied refl)
