use Rattle.std.proofs.Common.{◌≡◌, Bool, ap, refl}
use Rattle.pg_call.specs.declared.kind.How.TheVariants as hows
use Rattle.pg_migrating.specs.Courses.{statement_at}
use Rattle.pg_migrating.specs.Migrating.{entered}
use Rattle.pg_migrating.specs.Requests.{Asks}
use Rattle.pg_migrating.specs.declared.course.Course.{Course}
use Rattle.pg_migrating.proofs.CourseLaws.{last_ends, next_goes, next_runs}
use Rattle.pg_migrating.proofs.running.RunMigration+C+K.go_on.Goals as goal

pub returns-in-Some-clause-goes : goal.returns-in-Some-clause-goes
returns-in-Some-clause-goes g c =
    let a = c.args.self.now in
    let course = c.stop_clock.new.course in
    let d : Course = record course { step = c.in-Some.step; is_open = c.is_open_at-self.result } in
    let asks : Asks hows.Execute (g.C.PgExecutor.conn a.asking.conn).rule.depth (statement_at a.work course.nanos c.in-Some.step) c.ask.new.self.question = rw c.ask.ensures (rw c.depth-depth.ensures at c.request-question.ensures) in
    let enters : d ≡ entered a.work.migration.no_tx c.in-Some.step course = ap (λ (x : Bool). record course { step = c.in-Some.step; is_open = x }) c.is_open_at-self.ensures in
    next_goes g.C.L.Link.seen g.K.Clock.seen g.K.Clock.tells a.work a.work (g.C.PgExecutor.conn a.asking.conn) (g.C.PgExecutor.conn c.ask.new.self.conn) a.clock.now c.stop_clock.new.clock a.course course d c.in-Some.step c.ask.new.self.question refl (rw c.ends_work-ends.ensures at c.stop_clock.ensures) c.in-Some.ensures asks enters

pub returns-in-Some-clause-tells : goal.returns-in-Some-clause-tells
returns-in-Some-clause-tells g c first zero h =
    let a = c.args.self.now in
    let course = c.stop_clock.new.course in
    let d : Course = record course { step = c.in-Some.step; is_open = c.is_open_at-self.result } in
    let asks : Asks hows.Execute (g.C.PgExecutor.conn a.asking.conn).rule.depth (statement_at a.work course.nanos c.in-Some.step) c.ask.new.self.question = rw c.ask.ensures (rw c.depth-depth.ensures at c.request-question.ensures) in
    let enters : d ≡ entered a.work.migration.no_tx c.in-Some.step course = ap (λ (x : Bool). record course { step = c.in-Some.step; is_open = x }) c.is_open_at-self.ensures in
    next_runs g.C.L.Link.seen g.K.Clock.seen g.K.Clock.tells a.work a.work first (g.C.PgExecutor.conn a.asking.conn) (g.C.PgExecutor.conn a.asking.conn) (g.C.PgExecutor.conn c.ask.new.self.conn) zero a.clock.now c.stop_clock.new.clock c.stop_clock.new.clock a.course course d c.in-Some.step c.ask.new.self.question refl refl (ap (λ x. g.C.PgExecutor.conn x.conn) c.ask.ensures) refl (rw c.ends_work-ends.ensures at c.stop_clock.ensures) c.in-Some.ensures asks enters h

pub returns-in-None-clause-tells : goal.returns-in-None-clause-tells
returns-in-None-clause-tells g c first zero h =
    let a = c.args.self.now in
    last_ends g.C.L.Link.seen g.K.Clock.seen g.K.Clock.tells a.work a.work first (g.C.PgExecutor.conn a.asking.conn) (g.C.PgExecutor.conn a.asking.conn) zero a.clock.now c.stop_clock.new.clock a.course c.stop_clock.new.course refl refl (rw c.ends_work-ends.ensures at c.stop_clock.ensures) c.in-None.ensures h
