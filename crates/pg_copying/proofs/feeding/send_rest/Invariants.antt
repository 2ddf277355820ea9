use Rattle.std.proofs.Common.{length, ◌-◌}
use Rattle.pg_conn.specs.Connections.{seen_by}
use Rattle.pg_copying.proofs.FeedLaws.{SendsSome}
use Rattle.pg_copying.proofs.feeding.send_rest.Given as goal

abbrev pub invariant-loop-e : goal.invariant-loop-e
invariant-loop-e g l = SendsSome (seen_by g.L.Link.seen l.initial.conn) (seen_by g.L.Link.seen l.conn) l.rest l.queued

abbrev pub decreases-loop-e : goal.decreases-loop-e
decreases-loop-e g l = length l.rest - l.queued
