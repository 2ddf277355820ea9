-- The call that takes an advisory lock and waits for it (PostgreSQL manual, "Advisory Lock Functions"): its statement is prepared, and then run.
use Rattle.std.specs.Prelude.{◌≡◌, ◌⊎◌, ℕ, ◌+◌, ◌-◌, ◌^◌, min, Bool, true, false, not, ◌&&◌, leb, List, Option, Some, None, is_some, Result, Ok, Err, if◌then◌else◌}
use Rattle.futures.specs.declared.task.Poll.{Poll}
use Rattle.futures.specs.declared.task.Poll.TheVariants.{Ready, Pending}
use Rattle.pg_wire.specs.declared.error.Error.{Error}
use Rattle.pg_wire.specs.declared.error.Error.TheVariants as errors
use Rattle.pg_stream.specs.Links.{LinkSeen}
use Rattle.pg_locks.specs.declared.key.PgAdvisoryLockKey.{PgAdvisoryLockKey}
use Rattle.pg_locks.specs.Locks.{lock_statement, unlock_query}
use Rattle.pg_rule.specs.Caches.{entry_at}
use Rattle.pg_call.specs.declared.kind.How.TheVariants as hows
use Rattle.pg_call.specs.declared.kind.Kind.TheVariants as kinds
use Rattle.pg_call.specs.declared.query_result.PgQueryResult.{PgQueryResult}
use Rattle.pg_call.specs.declared.request.Request.{Request}
use Rattle.pg_call.specs.declared.request.Request.TheVariants as requests
use Rattle.pg_call.specs.declared.statement.Prepared.{Prepared}
use Rattle.pg_call.specs.declared.answer.Turn.{Turn}
use Rattle.pg_call.specs.Answers.{statement_turn, total_turn}
use Rattle.pg_conn.specs.Connections.{ConnOf, left, seen_by, started_call, started_next}
use Rattle.pg_conn.specs.Holding.{gave_up}
use Rattle.pg_conn.specs.States.{IsCalling, to_prepare, turn_of, untyped}
use Rattle.pg_conn.specs.Turns.{PollsCall, PollsMore}
use Rattle.pg_locks.specs.Keys.{with_key}
use Rattle.pg_locking.specs.Rooms.{IsHeld, IsUnheld}
use Rattle.pg_locking.specs.declared.lock_call.Stage.{Stage}
use Rattle.pg_locking.specs.declared.lock_call.Stage.TheVariants as stages

-- ---- when the lock was asked for

-- the groups that the calls have queued so far
abbrev pub groups_in : {A : Type 0} → ConnOf A → ℕ
groups_in c = min (c.earlier + c.groups) (2 ^ 64 - 1)

-- how many there are once the statement that locks is asked to run: one more where it is kept, and else one more yet, which describes it
abbrev pub lock_at : {A : Type 0} → List ℕ → ConnOf A → ℕ
lock_at text c = min (groups_in c + (if is_some (entry_at text c.rule.cache.entries) then 1 else 2)) (2 ^ 64 - 1)

-- the lock may be held by the session, though nobody has it: it was asked for
abbrev pub is_asked : {A : Type 0} → ℕ → ConnOf A → Bool
is_asked at c = leb at (groups_in c)

abbrev pub is_database : Error → Bool
is_database (errors.Database error) = true
is_database _ = false

-- and no error of the server has answered that
abbrev pub is_due : {A : Type 0} → ℕ → Error → ConnOf A → Bool
is_due at e c = not (is_database e) && is_asked at c

-- the text that releases it, where that is due
abbrev pub release_if : Bool → PgAdvisoryLockKey → Option (List ℕ)
release_if due key = if due then Some (unlock_query key) else None

-- ---- the statement that locks

abbrev pub lock_request : PgAdvisoryLockKey → Request
lock_request key = requests.Execute (with_key (lock_statement key) key)

-- what an answer to it makes of the connection
abbrev pub LockedBy : {A : Type 0} → PgAdvisoryLockKey → ℕ → Poll (Result PgQueryResult Error) → ConnOf A → ConnOf A → Stage → Poll (Result (Unit {0}) Error) → Type 0
LockedBy key at Pending m b stage answer = (b ≡ m) × (stage ≡ stages.Locking at) × (answer ≡ Pending)
LockedBy key at (Ready (Ok total)) m b stage answer = (b ≡ m) × (stage ≡ stages.Over) × (answer ≡ Ready (Ok tt))
LockedBy key at (Ready (Err e)) m b stage answer = (b ≡ gave_up (release_if (is_due at e m) key) m) × (stage ≡ stages.Over) × (answer ≡ Ready (Err e))

abbrev pub HearsLocked : {A : Type 0} → PgAdvisoryLockKey → ℕ → Poll Turn → ConnOf A → ConnOf A → Stage → Poll (Result (Unit {0}) Error) → Type 0
HearsLocked key at turn m b stage answer = (total : Poll (Result PgQueryResult Error)) × (turn ≡ turn_of total_turn total) × LockedBy key at total m b stage answer

-- for want of memory nothing more is asked
abbrev pub LocksNot : {A : Type 0} → ConnOf A → ConnOf A → Stage → Poll (Result (Unit {0}) Error) → Type 0
LocksNot a b stage answer = IsUnheld a b × (stage ≡ stages.Over) × (answer ≡ Ready (Err errors.OutOfMemory))

-- behind the preparation: a guard is counted, and the statement runs
abbrev pub Locks : {A : Type 0} → (A → LinkSeen) → PgAdvisoryLockKey → ConnOf A → ConnOf A → Stage → Poll (Result (Unit {0}) Error) → Type 0
Locks {A} seen key a b stage answer =
    LocksNot a b stage answer
    ⊎ ((h m : ConnOf A) × (turn : Poll Turn) × IsHeld a h × PollsMore (seen_by seen (started_next (lock_request key) h)) (seen_by seen m) turn × HearsLocked key (lock_at (lock_statement key) a) turn m b stage answer)

-- ---- its preparation, which names no types

abbrev pub LocksBehind : {A : Type 0} → (A → LinkSeen) → PgAdvisoryLockKey → Poll (Result Prepared Error) → ConnOf A → ConnOf A → Stage → Poll (Result (Unit {0}) Error) → Type 0
LocksBehind seen key Pending m b stage answer = (b ≡ m) × (stage ≡ stages.Preparing) × (answer ≡ Pending)
LocksBehind seen key (Ready (Err e)) m b stage answer = (b ≡ m) × (stage ≡ stages.Over) × (answer ≡ Ready (Err e))
LocksBehind seen key (Ready (Ok prepared)) m b stage answer = Locks seen key m b stage answer

abbrev pub PreparesBy : {A : Type 0} → (A → LinkSeen) → PgAdvisoryLockKey → Poll Turn → ConnOf A → ConnOf A → Stage → Poll (Result (Unit {0}) Error) → Type 0
PreparesBy seen key turn m b stage answer = (told : Poll (Result Prepared Error)) × (turn ≡ turn_of statement_turn told) × LocksBehind seen key told m b stage answer

abbrev pub PreparesLock : {A : Type 0} → (A → LinkSeen) → PgAdvisoryLockKey → ConnOf A → ConnOf A → Stage → Poll (Result (Unit {0}) Error) → Type 0
PreparesLock {A} seen key a b stage answer = (m : ConnOf A) × (turn : Poll Turn) × PollsCall (seen_by seen a) (seen_by seen m) turn × PreparesBy seen key turn m b stage answer

-- ---- its polls

-- the statement that runs
abbrev pub GoesOnLocking : {A : Type 0} → (A → LinkSeen) → PgAdvisoryLockKey → ℕ → ConnOf A → ConnOf A → Stage → Poll (Result (Unit {0}) Error) → Type 0
GoesOnLocking {A} seen key at a b stage answer = (m : ConnOf A) × (turn : Poll Turn) × PollsCall (seen_by seen a) (seen_by seen m) turn × HearsLocked key at turn m b stage answer

-- for want of memory nothing is prepared
abbrev pub PreparesNot : {A : Type 0} → ConnOf A → ConnOf A → Stage → Poll (Result (Unit {0}) Error) → Type 0
PreparesNot a b stage answer = (b ≡ a) × (stage ≡ stages.Over) × (answer ≡ Ready (Err errors.OutOfMemory))

-- one poll, from the stage that the call had come to
abbrev pub PollsLock : {A : Type 0} → (A → LinkSeen) → PgAdvisoryLockKey → Stage → ConnOf A → ConnOf A → Stage → Poll (Result (Unit {0}) Error) → Type 0
PollsLock seen key stages.Asked a b stage answer = PreparesNot a b stage answer ⊎ PreparesLock seen key (started_call (to_prepare (untyped (lock_statement key))) a) b stage answer
PollsLock seen key stages.Preparing a b stage answer = PreparesLock seen key a b stage answer
PollsLock seen key (stages.Locking at) a b stage answer = GoesOnLocking seen key at a b stage answer
PollsLock seen key stages.Over a b stage answer = ⊥

-- the call that runs, which still does where it waits
abbrev pub IsLocking : {A : Type 0} → Stage → ConnOf A → Type 0
IsLocking stages.Asked c = Unit {0}
IsLocking stages.Preparing c = IsCalling kinds.Prepare c
IsLocking (stages.Locking at) c = IsCalling (kinds.Run hows.Execute) c
IsLocking stages.Over c = ⊥

abbrev pub StaysLocking : {A X : Type 0} → Stage → ConnOf A → Poll X → Type 0
StaysLocking stage c Pending = IsLocking stage c
StaysLocking stage c (Ready x) = Unit {0}

-- what is left of the connection where the call is given up: the lock is released where it was asked for
abbrev pub left_locking : {A : Type 0} → PgAdvisoryLockKey → Stage → ConnOf A → ConnOf A
left_locking key stages.Asked c = c
left_locking key stages.Preparing c = left c
left_locking key (stages.Locking at) c = gave_up (release_if (is_asked at c) key) c
left_locking key stages.Over c = c
