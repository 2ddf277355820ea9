use Rattle.std.proofs.Common.{◌≡◌, None}
use Rattle.std.proofs.lemmas.Option.{IfSome_then}
use Rattle.pg_conn.specs.Connections.{seen_by}
use Rattle.pg_conn.proofs.FirstLaws.{shown_now}
use Rattle.pg_conn.proofs.connection.PgConnection.try_row.Goals as goal

pub returns-in-None-clause-shown : goal.returns-in-None-clause-shown
returns-in-None-clause-shown g c =
    let seen = seen_by g.L.Link.seen in
    let whole : c.args.self.now.broken ≡ None = rw (← c.self.view_is) c.in-None.is in
    IfSome_then c.show_at_once.result c.show_at_once.ensures.shown (λ row shows. shown_now (seen c.args.self.now) (seen c.show_at_once.new.self) row whole shows)
