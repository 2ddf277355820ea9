use Rattle.pg_locking.specs.Flags.{IsAsking}
use Rattle.pg_locking.specs.Held.{OnHeld}
use Rattle.cases.proofs.migrating.locks.calls.release.Given as goal

abbrev pub invariant-loop : goal.invariant-loop
invariant-loop g l = OnHeld g.C.PgExecutor.conn (IsAsking l.state.call.asking) l.state.conn
