use Rattle.std.proofs.Common.{◌≡◌, [], Option, Some, ap, refl, rules, option_to_list}
use Rattle.pg_stream.specs.Streams.{stream_by}
use Rattle.pg_listening.specs.Listening.{stream_in}
use Rattle.pg_listening.proofs.BufferLaws.{hears_at}
use Rattle.pg_listening.proofs.ListeningLaws.{pops_earlier, takes_oldest}
use Rattle.pg_listening.proofs.listening.Listening.next_buffered.Goals as goal

pub returns-in-Some-clause-hears : goal.returns-in-Some-clause-hears
returns-in-Some-clause-hears g c = rw (← c.self.view_is) (pops_earlier _ _ c.in-Some.oldest c.self.inside.earlier.items c.pop_front.new.self.items refl refl c.in-Some.ensures.items refl)

pub returns-clause-hears : goal.returns-clause-hears
returns-clause-hears g c =
    let conn = g.C.PgExecutor.conn in
    let seen = g.C.L.Link.seen in
    let before : c.self.inside.earlier.items ≡ [] = search rules in
    let behind : c.pop_front.new.self.items ≡ [] = search rules in
    rw (← c.self.view_is) (hears_at [] _ _ [] [] (Some (stream_by seen (conn c.in-Some-conn.conn).stream)) (Some (stream_by seen (conn c.take_oldest.new.holder).stream)) (option_to_list c.take_oldest.result) before (ap (λ (x : Option _). stream_in conn seen x) c.in-Some-conn.is) behind refl
    (takes_oldest seen (conn c.in-Some-conn.conn) (conn c.take_oldest.new.holder) c.take_oldest.result c.take_oldest.ensures.same c.take_oldest.ensures.takes))
