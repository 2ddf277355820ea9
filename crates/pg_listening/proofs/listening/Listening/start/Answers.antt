use Rattle.std.proofs.Common.{◌≡◌, [], Some, Option, ap, ◌∙◌, subst, refl}
use Rattle.pg_conn.specs.Connections.{started_call}
use Rattle.pg_stream.specs.Streams.{stream_by}
use Rattle.pg_listening.specs.Listening.{KeepsNews, stream_in}
use Rattle.pg_listening.proofs.BufferLaws.{hears_at}
use Rattle.pg_listening.proofs.ListeningLaws.{starts_heard, starts_keeping}
use Rattle.pg_listening.proofs.listening.Listening.start.Goals as goal

pub invariant_of-self : goal.invariant_of-self
invariant_of-self g c =
    let conn = g.C.PgExecutor.conn in
    let request = c.args.request in
    let started : conn c.start.new.holder ≡ started_call request (conn c.in-Some.conn) = ap conn c.start.ensures ∙ g.met.C.PgExecutor.written c.in-Some.conn (started_call request (conn c.in-Some.conn)) in
    let keeps : KeepsNews conn (Some c.in-Some.conn) = subst (λ (x : Option _). KeepsNews conn x) c.in-Some.is c.self.invariant.keeping in
    record {
      keeping = starts_keeping g.C.L.Link.seen (conn c.in-Some.conn) (conn c.start.new.holder) request started keeps;
      asked = tt;
    }

pub returns-clause-hears : goal.returns-clause-hears
returns-clause-hears g c =
    let conn = g.C.PgExecutor.conn in
    let seen = g.C.L.Link.seen in
    let request = c.args.request in
    let started : conn c.start.new.holder ≡ started_call request (conn c.in-Some.conn) = ap conn c.start.ensures ∙ g.met.C.PgExecutor.written c.in-Some.conn (started_call request (conn c.in-Some.conn)) in
    let keeps : KeepsNews conn (Some c.in-Some.conn) = subst (λ (x : Option _). KeepsNews conn x) c.in-Some.is c.self.invariant.keeping in
    rw (← c.self.view_is) (hears_at [] _ _ c.self.inside.earlier.items c.self.inside.earlier.items (Some (stream_by seen (conn c.in-Some.conn).stream)) (Some (stream_by seen (conn c.start.new.holder).stream)) [] refl (ap (λ (x : Option _). stream_in conn seen x) c.in-Some.is) refl refl
    (starts_heard seen (conn c.in-Some.conn) (conn c.start.new.holder) c.self.inside.earlier.items request started keeps))
