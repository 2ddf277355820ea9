use Rattle.std.proofs.Common.{[], Option, Some, ap, refl}
use Rattle.pg_stream.specs.Streams.{stream_by}
use Rattle.pg_listening.specs.Listening.{stream_in}
use Rattle.pg_listening.proofs.BufferLaws.{hears_at}
use Rattle.pg_listening.proofs.ListeningLaws.{saves_all}
use Rattle.pg_listening.proofs.listening.Listening.save.Goals as goal

pub returns-in-Some-clause-hears : goal.returns-in-Some-clause-hears
returns-in-Some-clause-hears g c =
    let conn = g.C.PgExecutor.conn in
    let seen = g.C.L.Link.seen in
    rw (← c.self.view_is) (hears_at [] _ _ c.self.inside.earlier.items c.save.new.earlier.items (Some (stream_by seen (conn c.in-Some.conn).stream)) (Some (stream_by seen (conn c.save.new.holder).stream)) [] refl (ap (λ (x : Option _). stream_in conn seen x) c.in-Some.is) refl refl
    (saves_all seen (conn c.in-Some.conn) (conn c.save.new.holder) c.self.inside.earlier.items c.save.new.earlier.items c.save.ensures.same c.save.ensures.saves.0))
