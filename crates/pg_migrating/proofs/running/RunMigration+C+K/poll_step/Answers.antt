use Rattle.pg_migrating.proofs.CourseLaws.{step_fails, step_ran, step_waits}
use Rattle.pg_migrating.proofs.running.RunMigration+C+K.poll_step.Goals as goal

pub returns-in-Pending-clause-tells : goal.returns-in-Pending-clause-tells
returns-in-Pending-clause-tells g c first zero r =
    let a = c.args.self.now in
    step_waits g.C.L.Link.seen g.K.Clock.seen g.K.Clock.tells a.work first (g.C.PgExecutor.conn a.asking.conn) (g.C.PgExecutor.conn c.poll_end.new.self.conn) zero a.clock.now a.course a.asking.question (λ asked from s. c.in-Pending.ensures.tells asked from s) r

pub returns-in-Ready-Ok-clause-tells : goal.returns-in-Ready-Ok-clause-tells
returns-in-Ready-Ok-clause-tells g c first zero r =
    let a = c.args.self.now in
    c.go_on.ensures.tells first zero (step_ran g.C.L.Link.seen g.K.Clock.seen g.K.Clock.tells a.work first (g.C.PgExecutor.conn a.asking.conn) (g.C.PgExecutor.conn c.poll_end.new.self.conn) zero a.clock.now a.course a.asking.question (λ asked from s. rw c.in-Ready-Ok.field-0-is at (c.in-Ready-Ok.ensures.tells asked from s)) r)

pub returns-in-Ready-Err-clause-tells : goal.returns-in-Ready-Err-clause-tells
returns-in-Ready-Err-clause-tells g c first zero r =
    let a = c.args.self.now in
    rw (c.told.ensures, c.groups-groups.ensures) (step_fails g.C.L.Link.seen g.K.Clock.seen g.K.Clock.tells a.work first (g.C.PgExecutor.conn a.asking.conn) (g.C.PgExecutor.conn c.poll_end.new.self.conn) zero a.clock.now a.course a.asking.question c.in-Ready-Err.e (λ asked from s. rw c.in-Ready-Err.field-0-is at (c.in-Ready-Err.ensures.tells asked from s)) r)
