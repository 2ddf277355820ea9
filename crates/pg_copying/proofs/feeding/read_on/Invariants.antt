use Rattle.std.proofs.Common.{◌≤◌, ◌-◌}
use Rattle.pg_conn.specs.Connections.{seen_by}
use Rattle.pg_copying.proofs.FeedLaws.{ReadsSome}
use Rattle.pg_copying.proofs.feeding.read_on.Given as goal

abbrev pub invariant-loop-e : goal.invariant-loop-e
invariant-loop-e g l = record {
  reads : ReadsSome (seen_by g.L.Link.seen l.initial.conn) (seen_by g.L.Link.seen l.conn) (g.S.Source.seen l.initial.source) (g.S.Source.seen l.source) l.pieces;
  most : l.pieces ≤ 256;
}

abbrev pub decreases-loop-e : goal.decreases-loop-e
decreases-loop-e g l = 256 - l.pieces
