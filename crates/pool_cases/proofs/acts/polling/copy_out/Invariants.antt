use Rattle.std.proofs.Common.{◌≡◌, false}
use Rattle.pg_conn.specs.Connections.{is_over}
use Rattle.pool_cases.proofs.acts.polling.copy_out.Given as goal

abbrev pub invariant-loop : goal.invariant-loop
invariant-loop g l = is_over l.state.request (g.C.PgExecutor.conn l.state.conn).call ≡ false
