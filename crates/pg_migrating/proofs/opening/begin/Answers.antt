use Rattle.pg_conn.specs.Dials.{HandsOut}
use Rattle.pg_migrating.proofs.OpeningLaws.{asked_fails, asked_waits, begun_goes, begun_stays, unasked_fails}
use Rattle.pg_migrating.proofs.opening.begin.Goals as goal

pub returns-in-Ok : goal.returns-in-Ok
returns-in-Ok g c =
    let started = c.in-Ok.ensures.ok in
    (started.1, asked_waits g.D.L.Link.seen (HandsOut g.D.Dial.gives g.D.Dial.draws) g.D.Dial.seen c.args.dial.now c.dial_and_establish.new.dial c.args.stage c.in-Asked-Ok.errand c.in-Ok.start (rw c.in-Asked-Ok.field-0-is at c.in-Asked-Ok.is) started)

pub returns-in-Err : goal.returns-in-Err
returns-in-Err g c = asked_fails g.D.L.Link.seen (HandsOut g.D.Dial.gives g.D.Dial.draws) g.D.Dial.seen c.args.dial.now c.dial_and_establish.new.dial c.args.stage c.in-Asked-Ok.errand c.in-Err.e (rw c.in-Asked-Ok.field-0-is at c.in-Asked-Ok.is) c.in-Err.ensures.err

pub returns-in-Asked-Err : goal.returns-in-Asked-Err
returns-in-Asked-Err g c = unasked_fails g.D.L.Link.seen (HandsOut g.D.Dial.gives g.D.Dial.draws) g.D.Dial.seen c.args.dial.now c.args.stage c.in-Asked-Err.e (rw c.in-Asked-Err.field-0-is at c.in-Asked-Err.is)

pub returns-in-Begun : goal.returns-in-Begun
returns-in-Begun g c = (begun_goes g.D.L.Link.seen (HandsOut g.D.Dial.gives g.D.Dial.draws) g.D.Dial.seen c.args.stage c.in-Begun.demand c.in-Begun.start c.in-Begun.is c.requires, begun_stays g.D.L.Link.seen (HandsOut g.D.Dial.gives g.D.Dial.draws) g.D.Dial.seen c.args.dial.now c.args.stage c.in-Begun.demand c.in-Begun.start c.in-Begun.is)
