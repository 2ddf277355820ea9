use Rattle.pg_conn.specs.Connections.{seen_by}
use Rattle.pg_play.specs.Plays.{KeepsRoom}
use Rattle.pg_play.proofs.guards.keep_room.Given as goal

abbrev pub invariant-loop-step : goal.invariant-loop-step
invariant-loop-step g l = KeepsRoom (seen_by g.L.Link.seen l.fn.conn) (seen_by g.L.Link.seen l.conn)
