use Rattle.std.proofs.Common.{◌≡◌, ◌≤◌, true}
use Rattle.pg_conn.specs.Connections.{ConnOf}
use Rattle.pg_migrating.specs.Asking.{CallsQuietly, is_asked}
use Rattle.pg_migrating.specs.Courses.{rank}
use Rattle.pg_migrating.specs.Migrating.{Runs}
use Rattle.pg_migrating.proofs.running.RunMigration+C+K.poll.Given as goal

abbrev pub invariant-loop-answer : goal.invariant-loop-answer
invariant-loop-answer g l = record {
  over : is_asked l.self.asking.question (g.C.PgExecutor.conn l.self.asking.conn).call ≡ true;
  quiet : CallsQuietly l.self.asking.question (g.C.PgExecutor.conn l.self.asking.conn);
  few : l.left ≤ 256;
  holder : l.self.asking.conn ≡ g.C.PgExecutor.with_conn l.initial.self.asking.conn (g.C.PgExecutor.conn l.self.asking.conn);
  same : l.self.clock.ghost_name ≡ l.initial.self.clock.ghost_name;
  work : l.self.work ≡ l.initial.self.work;
  runs : (first : ConnOf g.row.C-L.Denot) (zero : g.row.K.Denot) → Runs g.C.L.Link.seen g.K.Clock.seen g.K.Clock.tells l.initial.self.work first zero l.initial.self.course l.initial.self.asking.question (g.C.PgExecutor.conn l.initial.self.asking.conn) l.initial.self.clock.now → Runs g.C.L.Link.seen g.K.Clock.seen g.K.Clock.tells l.initial.self.work first zero l.self.course l.self.asking.question (g.C.PgExecutor.conn l.self.asking.conn) l.self.clock.now;
}

abbrev pub decreases-loop-answer : goal.decreases-loop-answer
decreases-loop-answer g l = rank l.self.course.step
