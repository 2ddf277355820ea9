use Rattle.pg_stream.proofs.StreamLemmas.{frame_then}
use Rattle.pg_stream.proofs.stream.PgStream.poll_frame.Goals as goal

pub returns-in-Ready-Ok : goal.returns-in-Ready-Ok
returns-in-Ready-Ok g c =
    let front = rw c.in-Ready-Ok.field-0-is at c.in-Ready-Ok.ensures in
    frame_then g.L.Link.seen c.args.self.now c.poll_front.new.self c.take_front.new.self c.in-Ready-Ok.front c.take_front.result front c.take_front.ensures
