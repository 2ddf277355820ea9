use Rattle.std.proofs.Common.{ap, arith}
use Rattle.pg_conn.specs.Connections.{ConnOf, begun_with, seen_by}
use Rattle.pg_conn.proofs.StateLaws.{left_through}
use Rattle.pg_conn.proofs.connection.PgConnection.poll_call_within.Goals as goal

pub returns-in-None-clause-left : goal.returns-in-None-clause-left
returns-in-None-clause-left g c =
    let p = c.poll_once-turn in
    let fewer = left_through (begun_with c.args.left.now (seen_by g.L.Link.seen c.args.self.now)) (seen_by g.L.Link.seen p.new.self) p.result p.ensures in
    let same = ap (λ (x : ConnOf g.row.L.Denot). x.stream.left) c.self-in-None.view_is in
    omega (arith, fewer, same, c.left.ensures)
