use Rattle.pg_stream.specs.Streams.{stream_by}
use Rattle.pg_stream.proofs.StreamLemmas.{ReadsOn}
use Rattle.pg_stream.proofs.stream.PgStream.poll_read.Given as goal

abbrev pub invariant-loop-front : goal.invariant-loop-front
invariant-loop-front g l = ReadsOn (stream_by g.L.Link.seen l.initial.self) (stream_by g.L.Link.seen l.self)

abbrev pub decreases-loop-front : goal.decreases-loop-front
decreases-loop-front g l = l.self.left
