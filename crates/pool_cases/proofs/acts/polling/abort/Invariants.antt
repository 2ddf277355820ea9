use Rattle.pg_copying.specs.Aborts.{IsAborting}
use Rattle.pool_cases.proofs.acts.polling.abort.Given as goal

abbrev pub invariant-loop : goal.invariant-loop
invariant-loop g l = IsAborting l.state.stage (g.C.PgExecutor.conn l.state.conn)
