use Rattle.std.proofs.Common.{inr, arith, ◌≤◌}
use Rattle.pg_migrating.proofs.SessionLaws.{calls_goes, calls_runs, calls_tells, fails_goes, opens_fails, start_goes, waits_goes, waits_stands}
use Rattle.pg_migrating.proofs.session.poll.Goals as goal

pub connect-requires-clause-goes : goal.connect-requires-clause-goes
connect-requires-clause-goes g c =
    let s = c.args.session.now in
    start_goes g.D.Sessions.opens c.requires.goes.0 s.start s.conn c.requires.goes.1

pub poll_call-requires-clause-runs : goal.poll_call-requires-clause-runs
poll_call-requires-clause-runs g c =
    calls_runs g.D.L.Link.seen g.D.Sessions.opens c.requires.goes.0 c.args.session.now c.connect.new.session c.args.dial.now c.connect.new.dial tt (rw c.in-Ready-Ok.field-0-is at c.in-Ready-Ok.ensures.connects) c.requires.goes.1

pub returns-in-Ready-Ok-clause-goes : goal.returns-in-Ready-Ok-clause-goes
returns-in-Ready-Ok-clause-goes g c kind k =
    calls_goes g.D.L.Link.seen g.D.Sessions.opens kind c.args.session.now c.connect.new.session c.poll_call.new.self c.args.dial.now c.connect.new.dial tt c.connect.new.left c.poll_call.result (rw c.in-Ready-Ok.field-0-is at c.in-Ready-Ok.ensures.connects) c.poll_call.ensures.polls k

pub returns-in-Ready-Ok-clause-tells : goal.returns-in-Ready-Ok-clause-tells
returns-in-Ready-Ok-clause-tells g c asked first k =
    let few : c.connect.new.left ≤ 256 = omega (arith, c.connect.ensures.left, c.requires.left) in
    calls_tells g.D.L.Link.seen g.D.Sessions.opens asked first c.args.session.now c.connect.new.session c.poll_call.new.self c.args.dial.now c.connect.new.dial tt c.connect.new.left c.poll_call.result few (rw c.in-Ready-Ok.field-0-is at c.in-Ready-Ok.ensures.connects) c.poll_call.ensures.polls k

pub returns-in-Ready-Err-clause-goes : goal.returns-in-Ready-Err-clause-goes
returns-in-Ready-Err-clause-goes g c kind k =
    fails_goes g.D.L.Link.seen g.D.Sessions.opens kind c.args.session.now c.connect.new.session c.args.dial.now c.connect.new.dial c.in-Ready-Err.e (rw c.in-Ready-Err.field-0-is at c.in-Ready-Err.ensures.connects)

pub returns-in-Ready-Err-clause-tells : goal.returns-in-Ready-Err-clause-tells
returns-in-Ready-Err-clause-tells g c asked first k =
    let s = c.args.session.now in
    inr (opens_fails g.D.L.Link.seen g.D.Sessions.opens asked first s.start s.conn c.connect.new.session c.args.dial.now c.connect.new.dial c.in-Ready-Err.e (rw c.in-Ready-Err.field-0-is at c.in-Ready-Err.ensures.connects) k)

pub returns-in-Pending-clause-goes : goal.returns-in-Pending-clause-goes
returns-in-Pending-clause-goes g c kind k =
    let s = c.args.session.now in
    waits_goes g.D.L.Link.seen g.D.Sessions.opens kind s.start s.conn c.connect.new.session c.args.dial.now c.connect.new.dial c.in-Pending.ensures.connects k

pub returns-in-Pending-clause-tells : goal.returns-in-Pending-clause-tells
returns-in-Pending-clause-tells g c asked first k =
    let s = c.args.session.now in
    waits_stands g.D.L.Link.seen g.D.Sessions.opens asked first s.start s.conn c.connect.new.session c.args.dial.now c.connect.new.dial c.in-Pending.ensures.connects k
