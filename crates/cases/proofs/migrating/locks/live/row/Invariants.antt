use Rattle.std.proofs.Common.{◌≡◌, false}
use Rattle.pg_conn.specs.Connections.{is_over}
use Rattle.cases.proofs.migrating.locks.live.row.Given as goal

abbrev pub invariant-loop : goal.invariant-loop
invariant-loop g l = is_over l.call.request l.call.conn.now.call ≡ false
