use Rattle.pg_conn.proofs.TurnLaws.{polled, whole_behind, falls_behind}
use Rattle.pg_conn.proofs.connection.PgConnection.poll_exchange.Goals as goal

pub returns : goal.returns
returns g c =
    let e = c.beat-beat.ensures in
    let is = c.end_exchange.ensures in
    record {
      polled = polled g.L.Link.seen c.args.self.now c.beat-beat.new.self c.end_exchange.new.self c.beat-beat.result c.requires e.beat e.says e.flush e.asked is;
      ends = e.ends;
      whole = λ next same. whole_behind g.L.Link.seen c.args.self.now c.beat-beat.new.self c.end_exchange.new.self c.beat-beat.result next c.requires e.beat is same;
      falls = falls_behind g.L.Link.seen c.args.self.now c.beat-beat.new.self c.end_exchange.new.self c.beat-beat.result is e.falls;
    }
