use Rattle.std.proofs.Common.{◌∙◌, ap, is_some, refl, Some}
use Rattle.pg_stream.specs.Streams.{stream_by}
use Rattle.pg_conn.specs.News.{with_kept}
use Rattle.pg_listening.specs.Buffers.{news_begun}
use Rattle.pg_listening.specs.Listening.{stream_in}
use Rattle.pg_listening.proofs.BufferingLaws.{hears_hold}
use Rattle.pg_listening.proofs.hearing.Hearing.hold.Goals as goal

pub returns : goal.returns
returns g c =
    let seen = g.B.L.Link.seen in
    let conn = g.B.Held.PgExecutor.conn in
    let is = c.hold.ensures in
    let kept = with_kept news_begun (conn c.args.held) in
    let begun = stream_by seen kept.stream in
    let none = ap (λ h. stream_in conn seen h.listening.conn) c.self.view_is ∙ ap (λ o. stream_in conn seen o) c.requires.none in
    record {
      hears = rw (← c.self.view_is) (hears_hold g.B.L.Link.seen _ _ begun none (ap (λ l. stream_in conn seen l.conn) is ∙ ap (λ x. Some (stream_by seen x.stream)) (g.met.B.Held.PgExecutor.written c.args.held kept)) refl (ap (λ l. l.earlier) is) refl refl refl refl);
      channels = rw (← c.self.view_is) (ap (λ l. l.channels) is);
      held = ap (λ l. is_some l.conn) is;
      startup = rw (← c.self.view_is) refl;
      lost = rw (← c.self.view_is) refl;
      loss = rw (← c.self.view_is) refl;
      ready = refl;
    }
