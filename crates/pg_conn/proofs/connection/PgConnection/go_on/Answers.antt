use Rattle.pg_conn.specs.Connections.{seen_by}
use Rattle.pg_conn.proofs.FrontLaws.{starves}
use Rattle.pg_conn.proofs.TurnLaws.{TakesBeat-then}
use Rattle.pg_conn.proofs.connection.PgConnection.go_on.Goals as goal

pub returns-in-Ok-clause-beat : goal.returns-in-Ok-clause-beat
returns-in-Ok-clause-beat g c =
    TakesBeat-then (seen_by g.L.Link.seen c.args.self.now) (seen_by g.L.Link.seen c.ask.new.self) (seen_by g.L.Link.seen c.go_ahead.new.self) c.go_ahead.result c.in-Ok.ensures.ok.beat c.go_ahead.ensures.beat

pub returns-in-Err-clause-beat : goal.returns-in-Err-clause-beat
returns-in-Err-clause-beat g c =
    let s = c.stop.ensures in
    starves g.L.Link.seen c.args.self.now c.ask.new.self c.stop.new.self c.in-Err.e c.stop.result c.in-Err.ensures.err c.ask.ensures.spare c.in-Err.ensures.memory s.now s.beat
