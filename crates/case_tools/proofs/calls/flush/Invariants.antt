use Rattle.std.proofs.Common.{◌≡◌, false}
use Rattle.pg_conn.specs.Connections.{is_over}
use Rattle.case_tools.proofs.calls.flush.Given as goal

abbrev pub invariant-loop : goal.invariant-loop
invariant-loop g l = is_over l.state.request l.state.conn.now.call ≡ false
