use Rattle.std.proofs.Common.{refl}
use Rattle.pg_migrating.proofs.CourseLaws.{clock_begins}
use Rattle.pg_migrating.proofs.running.RunMigration+C+K.start_clock.Goals as goal

pub returns-in-Some-clause-runs : goal.returns-in-Some-clause-runs
returns-in-Some-clause-runs g c first zero s =
    let a = c.args.self.now in
    clock_begins g.C.L.Link.seen g.K.Clock.seen g.K.Clock.tells a.work first (g.C.PgExecutor.conn a.asking.conn) zero a.clock.now c.now-self.new.self a.course a.asking.question c.now-self.result (rw c.in-Some.is refl) (c.now-self.ensures.reading, c.now-self.ensures.tells) s
