use Rattle.pg_stream.specs.Streams.{stream_by, fuel_of}
use Rattle.pg_stream.proofs.StreamLemmas.{HearsOn}
use Rattle.pg_stream.proofs.stream.PgStream.poll_aside.Given as goal

abbrev pub invariant-loop-answer : goal.invariant-loop-answer
invariant-loop-answer g l = HearsOn (stream_by g.L.Link.seen l.initial.self) (stream_by g.L.Link.seen l.self)

abbrev pub decreases-loop-answer : goal.decreases-loop-answer
decreases-loop-answer g l = fuel_of (stream_by g.L.Link.seen l.self)
