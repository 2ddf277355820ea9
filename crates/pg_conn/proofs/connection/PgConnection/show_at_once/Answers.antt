use Rattle.std.proofs.lemmas.Option.{IfSome_then}
use Rattle.pg_conn.proofs.FrontLaws.{shown_at_once}
use Rattle.pg_conn.proofs.connection.PgConnection.show_at_once.Goals as goal

pub returns-clause-shown : goal.returns-clause-shown
returns-clause-shown g c =
    let f = c.in-Some.ensures.front in
    IfSome_then c.shows_row-row.result c.shows_row-row.ensures.shown (λ row shows. shown_at_once g.L.Link.seen c.args.self.now c.shows_row-row.new.self c.accept.new.self c.in-Some.front row c.args.left f.1 f.0 shows (rw c.allow.ensures at c.accept.ensures))
