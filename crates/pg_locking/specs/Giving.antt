-- A lock that is asked for, and given up with whatever was answered.
use Rattle.std.specs.Prelude.{Some, Result, Ok, Err}
use Rattle.futures.specs.declared.task.Poll.{Poll}
use Rattle.futures.specs.declared.task.Poll.TheVariants.{Ready, Pending}
use Rattle.pg_wire.specs.declared.error.Error.{Error}
use Rattle.pg_locks.specs.declared.key.PgAdvisoryLockKey.{PgAdvisoryLockKey}
use Rattle.pg_locks.specs.Locks.{unlock_query}
use Rattle.pg_conn.specs.Connections.{ConnOf}
use Rattle.pg_conn.specs.Holding.{took_held}
use Rattle.pg_locking.specs.Locking.{left_locking}
use Rattle.pg_locking.specs.declared.lock_call.Stage.{Stage}

-- behind an Ok the guard is dropped
abbrev pub given_back : {A : Type 0} → PgAdvisoryLockKey → Stage → Poll (Result (Unit {0}) Error) → ConnOf A → ConnOf A
given_back key stage (Ready (Ok u)) c = took_held (Some (unlock_query key)) c
given_back key stage (Ready (Err e)) c = left_locking key stage c
given_back key stage Pending c = left_locking key stage c
