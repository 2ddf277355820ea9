use Rattle.pg_stream.specs.Streams.{stream_by}
use Rattle.pg_stream.proofs.StreamLemmas.{ahead_at_once}
use Rattle.pg_stream.proofs.stream.PgStream.poll_ahead.Goals as goal

pub returns-in-Some : goal.returns-in-Some
returns-in-Some g c = ahead_at_once (stream_by g.L.Link.seen c.args.self.now) c.in-Some.front c.in-Some.ensures.0 c.in-Some.ensures.1
