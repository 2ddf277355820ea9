use Rattle.std.proofs.Common.{◌≡◌, ◌≤◌, []}
use Rattle.pg_listening.specs.Sources.{IsDialled}
use Rattle.pg_listening.specs.Hearing.{HearsBy}
use Rattle.pg_listening.specs.Waiting.{StartsFrom}
use Rattle.pg_listening.proofs.hearing.Hearing.poll_recv.Given as goal

abbrev pub invariant-loop-e : goal.invariant-loop-e
invariant-loop-e g l = record {
  hears : HearsBy g.B.L.Link.seen g.B.Held.PgExecutor.conn l.initial.self l.self [];
  startup : StartsFrom g.B.L.Link.seen g.B.ConnectionSource.filling l.initial.self.startup l.self.startup;
  faults : (g.B.ConnectionSource.now l.source).faults ≡ (g.B.ConnectionSource.now l.initial.source).faults;
  channels : l.self.listening.channels ≡ l.initial.self.listening.channels;
  source : IsDialled (g.B.ConnectionSource.now l.initial.source) (g.B.ConnectionSource.now l.source);
  mine : l.initial.self.name ≡ (g.B.ConnectionSource.now l.initial.source).name;
  left : l.left ≤ l.initial.left;
  most : l.initial.left ≤ 256;
}

abbrev pub decreases-loop-e : goal.decreases-loop-e
decreases-loop-e g l = l.left
