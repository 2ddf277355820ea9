use Rattle.pg_stream.proofs.StreamLemmas.{heard_then}
use Rattle.pg_stream.proofs.stream.PgStream.poll_heard.Goals as goal

pub returns-in-Ready-Ok : goal.returns-in-Ready-Ok
returns-in-Ready-Ok g c =
    let front = rw c.in-Ready-Ok.field-0-is at c.in-Ready-Ok.ensures in
    heard_then g.L.Link.seen c.args.self.now c.poll_ahead.new.self c.take_heard.new.self c.in-Ready-Ok.front c.take_heard.result front c.take_heard.ensures
