use Rattle.std.proofs.Common.{◌≡◌, []}
use Rattle.pg_stream.specs.Streams.{stream_by, Moves, AllMoved}
use Rattle.pg_stream.proofs.stream.PgStream.poll_send.Given as goal

abbrev pub invariant-loop-self : goal.invariant-loop-self
invariant-loop-self g l = record {
  moves : Moves (stream_by g.L.Link.seen l.initial.self) (stream_by g.L.Link.seen l.self) [] [];
  held : l.self.held ≡ l.initial.self.held;
  spare : l.self.spare ≡ l.initial.self.spare;
  moved : AllMoved (stream_by g.L.Link.seen l.initial.self) (stream_by g.L.Link.seen l.self);
}

abbrev pub decreases-loop-self : goal.decreases-loop-self
decreases-loop-self g l = l.self.left
