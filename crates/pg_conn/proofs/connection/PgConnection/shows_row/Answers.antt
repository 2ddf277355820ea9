use Rattle.std.proofs.Common.{refl}
use Rattle.std.proofs.lemmas.Option.{IfSome_then}
use Rattle.pg_conn.proofs.FrontLaws.{framed_front}
use Rattle.pg_conn.proofs.connection.PgConnection.shows_row.Goals as goal

pub returns-in-Ok-clause-shown : goal.returns-in-Ok-clause-shown
returns-in-Ok-clause-shown g c =
    let f = c.in-Ok.ensures.ok in
    let frame = c.in-Ok.frame in
    rw (c.in-Ok.ensures.same, ← c.self.view_is) (IfSome_then c.shows_row.result c.shows_row.ensures.shown (λ row shows. (c.requires.tag, refl, frame.body, f.0, framed_front _ c.args.front frame f.0 f.1, shows)))
