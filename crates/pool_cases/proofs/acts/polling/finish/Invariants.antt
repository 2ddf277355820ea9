use Rattle.pg_copying.specs.Copies.{IsFinishing}
use Rattle.pool_cases.proofs.acts.polling.finish.Given as goal

abbrev pub invariant-loop : goal.invariant-loop
invariant-loop g l = IsFinishing l.state.is_ended (g.C.PgExecutor.conn l.state.conn)
