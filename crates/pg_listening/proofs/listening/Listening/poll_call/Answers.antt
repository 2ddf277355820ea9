use Rattle.std.proofs.Common.{◌∙◌, [], Some, Option, ap, refl, subst, sym}
use Rattle.pg_stream.specs.Streams.{stream_by}
use Rattle.pg_listening.specs.Listening.{CallsOn, stream_in}
use Rattle.pg_listening.proofs.BufferLaws.{hears_at, hears_reads}
use Rattle.pg_listening.proofs.listening.Listening.poll_call.Goals as goal

pub poll_running-requires-clause-calling : goal.poll_running-requires-clause-calling
poll_running-requires-clause-calling g c = (c.requires.calling.0, subst (λ (x : Option _). CallsOn g.C.PgExecutor.conn c.requires.calling.0 x) (sym (ap (λ l. l.conn) c.self.view_is) ∙ c.in-Some.is) c.requires.calling.1)

pub invariant_of-self : goal.invariant_of-self
invariant_of-self g c = record { keeping = c.poll_running.ensures.news.keeping; asked = tt }

pub returns : goal.returns
returns g c =
    let conn = g.C.PgExecutor.conn in
    let seen = g.C.L.Link.seen in
    let told = c.poll_running.ensures in
    let earlier = c.self.inside.earlier.items in
    let before = stream_by seen (conn c.in-Some.conn).stream in
    let behind = stream_by seen (conn c.poll_running.new.holder).stream in
    record {
      hears = rw (← c.self.view_is) (hears_at [] _ _ earlier earlier (Some before) (Some behind) [] refl (ap (λ (x : Option _). stream_in conn seen x) c.in-Some.is) refl refl (hears_reads before behind earlier told.news));
      left = told.left;
      polls = rw (← c.self.view_is, c.in-Some.is) told.polls;
      holder = rw (← c.self.view_is, c.in-Some.is) told.holder;
      channels = rw (← c.self.view_is) refl;
      asking = refl;
      apart = told.apart;
    }
