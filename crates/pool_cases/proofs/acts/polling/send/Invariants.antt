use Rattle.std.proofs.Common.{◌≡◌, ◌≤◌, length}
use Rattle.pg_conn.specs.Feeding.{IsFed}
use Rattle.pool_cases.proofs.acts.polling.send.Given as goal

abbrev pub invariant-loop : goal.invariant-loop
invariant-loop g l = record {
  within : l.state.queued ≤ length l.state.bytes.now;
  open_ : IsFed (g.C.PgExecutor.conn l.state.copy.now.conn);
  same : l.state.copy.ghost_name ≡ l.initial.state.copy.ghost_name;
}
