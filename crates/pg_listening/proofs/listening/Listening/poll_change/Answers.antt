use Rattle.std.proofs.Common.{◌∙◌, [], Some, Option, ap, refl, Err}
use Rattle.futures.specs.declared.task.Poll.TheVariants.{Pending, Ready}
use Rattle.pg_stream.specs.Streams.{stream_by}
use Rattle.pg_listening.specs.Listening.{stream_in}
use Rattle.pg_listening.proofs.BufferLaws.{hears_at, hears_reads}
use Rattle.pg_listening.proofs.listening.Listening.poll_change.Goals as goal

pub returns-in-Pending : goal.returns-in-Pending
returns-in-Pending g c =
    let conn = g.C.PgExecutor.conn in
    let seen = g.C.L.Link.seen in
    let told = c.poll_statement.ensures in
    let earlier = c.self.inside.earlier.items in
    let before = stream_by seen (conn c.in-Some.conn).stream in
    let behind = stream_by seen (conn c.poll_statement.new.holder).stream in
    record {
      hears = rw (← c.self.view_is) (hears_at [] _ _ earlier earlier (Some before) (Some behind) [] refl (ap (λ (x : Option _). stream_in conn seen x) c.in-Some.is) refl refl (hears_reads before behind earlier told.news));
      left = told.left;
      polls = rw (← c.self.view_is, c.in-Some.is) (Pending, refl, c.in-Pending.ensures.polls);
      holder = rw (← c.self.view_is, c.in-Some.is) told.holder;
      channels = rw (← c.self.view_is) refl;
      behind = rw (← c.self.view_is) refl;
      asking = ap (λ l. l.is_asking) c.self.view_is ∙ c.requires.asking;
      apart = tt;
    }

pub returns-in-Ready-Err : goal.returns-in-Ready-Err
returns-in-Ready-Err g c =
    let conn = g.C.PgExecutor.conn in
    let seen = g.C.L.Link.seen in
    let told = c.poll_statement.ensures in
    let earlier = c.self.inside.earlier.items in
    let before = stream_by seen (conn c.in-Some.conn).stream in
    let behind = stream_by seen (conn c.poll_statement.new.holder).stream in
    record {
      hears = rw (← c.self.view_is) (hears_at [] _ _ earlier earlier (Some before) (Some behind) [] refl (ap (λ (x : Option _). stream_in conn seen x) c.in-Some.is) refl refl (hears_reads before behind earlier told.news));
      left = told.left;
      polls = rw (← c.self.view_is, c.in-Some.is) (Ready (Err c.in-Ready-Err.e), refl, rw c.in-Ready-Err.field-0-is at c.in-Ready-Err.ensures.polls);
      holder = rw (← c.self.view_is, c.in-Some.is) told.holder;
      channels = rw (← c.self.view_is) refl;
      behind = rw (← c.self.view_is) refl;
      asking = refl;
      apart = rw c.in-Ready-Err.field-0-is at c.in-Ready-Err.ensures.apart;
    }
