use Rattle.pg_locking.specs.Locking.{IsLocking}
use Rattle.pg_locking.specs.Held.{OnHeld}
use Rattle.cases.proofs.migrating.locks.calls.take.Given as goal

abbrev pub invariant-loop : goal.invariant-loop
invariant-loop g l = OnHeld g.C.PgExecutor.conn (IsLocking l.state.call.stage) l.state.conn
