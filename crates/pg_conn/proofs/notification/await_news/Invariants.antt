use Rattle.pg_stream.specs.Streams.{stream_by, fuel_of}
use Rattle.pg_conn.specs.News.{AwaitsOn}
use Rattle.pg_conn.proofs.notification.await_news.Given as goal

abbrev pub invariant-loop-answer : goal.invariant-loop-answer
invariant-loop-answer g l = AwaitsOn (stream_by g.L.Link.seen l.initial.stream) (stream_by g.L.Link.seen l.stream)

abbrev pub decreases-loop-answer : goal.decreases-loop-answer
decreases-loop-answer g l = fuel_of (stream_by g.L.Link.seen l.stream)
