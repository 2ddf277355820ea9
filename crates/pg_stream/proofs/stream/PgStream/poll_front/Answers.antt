use Rattle.pg_stream.specs.Streams.{stream_by}
use Rattle.pg_stream.proofs.StreamLemmas.{PollsFront-after}
use Rattle.pg_stream.proofs.stream.PgStream.poll_front.Goals as goal

pub returns-in-Ready-Ok : goal.returns-in-Ready-Ok
returns-in-Ready-Ok g c =
    let seen = stream_by g.L.Link.seen in
    let sent = rw c.in-Ready-Ok.field-0-is at c.in-Ready-Ok.ensures in
    PollsFront-after (seen c.args.self.now) (seen c.poll_send.new.self) (seen c.poll_read.new.self) c.poll_read.result c.poll_send.ensures.moves c.poll_send.ensures.spare sent.gives.1 c.poll_read.ensures
