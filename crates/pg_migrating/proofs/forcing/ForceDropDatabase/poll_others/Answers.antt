use Rattle.futures.specs.declared.task.Poll.TheVariants.{Ready}
use Rattle.pg_migrating.proofs.ForceLaws.{terminate_fails, terminate_fits, terminate_runs, terminate_stands, terminate_tells, terminate_waits}
use Rattle.pg_migrating.proofs.forcing.ForceDropDatabase.poll_others.Goals as goal

pub poll_call-requires-clause-runs : goal.poll_call-requires-clause-runs
poll_call-requires-clause-runs g c = terminate_runs g.D.L.Link.seen g.D.Sessions.opens c.args.self.now.session c.requires.goes.0 c.requires.goes.1

pub read-requires : goal.read-requires
read-requires g c =
    let k = terminate_fits g.D.L.Link.seen g.D.Sessions.opens c.args.self.now.session c.poll_call.new.self c.args.left.now (Ready c.in-Ready.turn) c.requires.goes.0 c.requires.goes.1 c.in-Ready.ensures.polls in
    k.1

pub returns-in-Pending-clause-goes : goal.returns-in-Pending-clause-goes
returns-in-Pending-clause-goes g c = terminate_waits g.D.L.Link.seen g.D.Sessions.opens c.args.self.now.session c.poll_call.new.self c.args.self.now.last c.args.self.now.step c.args.left.now c.requires.step c.requires.goes c.in-Pending.ensures.polls

pub returns-in-Pending-clause-tells : goal.returns-in-Pending-clause-tells
returns-in-Pending-clause-tells g c asked first k =
    let old = c.args.self.now in
    terminate_stands g.D.L.Link.seen g.D.Sessions.opens asked first old.dial.now old.database old.session c.poll_call.new.self old.last old.step c.args.left.now c.requires.step c.requires.left c.in-Pending.ensures.polls k

pub returns-in-Ok-clause-tells : goal.returns-in-Ok-clause-tells
returns-in-Ok-clause-tells g c asked first k =
    let old = c.args.self.now in
    c.poll_remove.ensures.tells asked first (terminate_tells g.D.L.Link.seen g.D.Sessions.opens asked first old.dial.now c.in-Ready.turn old.database old.session c.poll_call.new.self c.close.new.self old.last c.args.left.now c.requires.left c.in-Ready.ensures.polls c.in-Ok.ensures k)

pub returns-in-Err-clause-goes : goal.returns-in-Err-clause-goes
returns-in-Err-clause-goes g c = rw c.finish.ensures.answer c.finish.ensures.step

pub returns-in-Err-clause-tells : goal.returns-in-Err-clause-tells
returns-in-Err-clause-tells g c asked first k =
    let old = c.args.self.now in
    let new = c.finish.new.self in
    rw (c.finish.ensures.answer, c.finish.ensures.dial) (terminate_fails g.D.L.Link.seen g.D.Sessions.opens asked first old.dial.now c.in-Ready.turn old.database new.database old.session c.poll_call.new.self new.session old.last new.last new.step c.args.left.now c.in-Err.e c.requires.left c.in-Ready.ensures.polls c.in-Err.ensures k)
