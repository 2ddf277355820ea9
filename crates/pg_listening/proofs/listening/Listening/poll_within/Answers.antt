use Rattle.std.proofs.Common.{Option, Some, refl, subst, sym}
use Rattle.pg_listening.specs.Listening.{FailsOn, KeepsNews, stream_in}
use Rattle.pg_listening.proofs.ListeningLaws.{fails_held, pops_earlier}
use Rattle.pg_listening.proofs.listening.Listening.poll_within.Goals as goal

pub returns-in-Some-clause-hears : goal.returns-in-Some-clause-hears
returns-in-Some-clause-hears g c = rw (← c.self.view_is) (pops_earlier _ _ c.in-Some.oldest c.self.inside.earlier.items c.pop_front.new.self.items refl refl c.in-Some.ensures.items refl)

pub returns-clause-fails : goal.returns-clause-fails
returns-clause-fails g c =
    let conn = g.C.PgExecutor.conn in
    let seen = g.C.L.Link.seen in
    let held = c.in-Some-conn.conn in
    let behind = c.poll_news.new.holder in
    let keeps : KeepsNews conn (Some held) = subst (λ (x : Option _). KeepsNews conn x) c.in-Some-conn.is c.self.invariant.keeping in
    let fails : FailsOn c.poll_news.result (stream_in conn seen (Some held)) (stream_in conn seen (Some behind)) =
    fails_held seen c.args.left.now c.poll_news.new.left (conn held) (conn behind) c.poll_news.result keeps c.poll_news.ensures.polls in
    rw (← c.self.view_is) (subst (λ (x : Option _). FailsOn c.poll_news.result (stream_in conn seen x) (stream_in conn seen (Some behind))) (sym c.in-Some-conn.is) fails)
