use Rattle.pg_copying.specs.Copies.{IsOpening}
use Rattle.pool_cases.proofs.acts.polling.open.Given as goal

abbrev pub invariant-loop : goal.invariant-loop
invariant-loop g l = IsOpening g.C.PgExecutor.conn l.state.request l.state.conn
