use Rattle.std.proofs.Common.{refl}
use Rattle.pg_conn.proofs.FrontLaws.{framed_front, plainly_other, plainly_row}
use Rattle.pg_conn.proofs.connection.PgConnection.takes_plainly.Goals as goal

pub returns-then-front-ne68-clause-yes : goal.returns-then-front-ne68-clause-yes
returns-then-front-ne68-clause-yes g c e =
    let f = c.body.ensures in
    rw (← c.self.view_is) (refl, c.body.result.now, f.0, f.1, plainly_other c.args.front.tag c.body.result.now _ _ (c.passes.ensures.yes e))

pub returns-then-not-collects-clause-yes : goal.returns-then-not-collects-clause-yes
returns-then-not-collects-clause-yes g c e =
    let f = c.body-then-not-collects.ensures in
    rw (← c.self.view_is) (refl, c.body-then-not-collects.result.now, f.0, f.1, plainly_row c.args.front.tag c.body-then-not-collects.result.now _ _ c.if-front-ne68.false (c.passes_row.ensures.yes e))

pub returns-in-Ok-clause-yes : goal.returns-in-Ok-clause-yes
returns-in-Ok-clause-yes g c e =
    let f = c.in-Ok.ensures.ok in
    let frame = c.in-Ok.frame in
    rw (c.in-Ok.ensures.same, ← c.self.view_is) (refl, frame.body, f.0, framed_front _ c.args.front frame f.0 f.1, plainly_row c.args.front.tag frame.body _ _ c.if-front-ne68.false (c.keeps_row.ensures.yes e))
