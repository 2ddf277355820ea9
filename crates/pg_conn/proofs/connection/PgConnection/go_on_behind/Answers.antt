use Rattle.std.proofs.Common.{subst}
use Rattle.pg_stream.specs.Streams.{stream_by}
use Rattle.pg_conn.specs.Connections.{ConnOf, seen_by}
use Rattle.pg_conn.specs.News.{AwaitsNews}
use Rattle.pg_conn.proofs.NewsLaws.{finds_after, untaken}
use Rattle.pg_conn.proofs.connection.PgConnection.go_on_behind.Goals as goal

pub returns-in-None : goal.returns-in-None
returns-in-None g c total a d =
    let seen = seen_by g.L.Link.seen in
    let stream = stream_by g.L.Link.seen in
    let behind = c.await_unasked in
    let none = untaken c.args.self.now c.next_buffered.new.self c.next_buffered.ensures.same c.in-None.ensures.takes in
    let awaits = subst (λ (s : ConnOf _). AwaitsNews (stream s.stream) (stream behind.new.self.stream) behind.result) none.0 behind.ensures.awaits in
    finds_after total c.args.left.now behind.new.left a (seen c.args.self.now) (seen behind.new.self) behind.result (rw (c.in-Ready-Ok.is, c.in-Ready-Ok.field-0-is) at d) awaits behind.ensures.left behind.ensures.breaks
