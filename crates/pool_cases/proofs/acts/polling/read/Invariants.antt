use Rattle.std.proofs.Common.{◌≡◌, false}
use Rattle.pg_conn.specs.Feeding.{IsFed}
use Rattle.pool_cases.proofs.acts.polling.read.Given as goal

abbrev pub invariant-loop : goal.invariant-loop
invariant-loop g l = record {
  over : l.state.is_ended ≡ false;
  open_ : IsFed (g.C.PgExecutor.conn l.state.copy.now.conn);
  same : l.state.copy.ghost_name ≡ l.initial.state.copy.ghost_name;
}
