use Rattle.std.specs.Prelude.{◌≡◌, List, None}
use Rattle.pg_stream.specs.Streams.{stream_by, fuel_of}
use Rattle.pg_call.specs.declared.request.Request.{Request}
use Rattle.pg_conn.specs.Connections.{seen_by}
use Rattle.pg_conn.specs.Turns.{HandsOver}
use Rattle.pg_conn.proofs.connection.PgConnection.poll_exchanges.Given as goal

abbrev pub invariant-loop-told : goal.invariant-loop-told
invariant-loop-told g l = record {
  whole : l.self.broken ≡ None;
  later : List Request;
  hands : HandsOver (seen_by g.L.Link.seen l.initial.self) later (seen_by g.L.Link.seen l.self);
}

abbrev pub decreases-loop-told : goal.decreases-loop-told
decreases-loop-told g l = fuel_of (stream_by g.L.Link.seen l.self.stream)
