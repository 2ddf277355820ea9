-- What calls about locks make of the room for cleanups: there is room for the release of each lock that is held.
use Rattle.std.proofs.Common.{inl, inr, ℕ, Bool, true, false, Some, None, Result, Ok, Err, sym, subst, arith}
use Rattle.futures.specs.declared.task.Poll.{Poll}
use Rattle.futures.specs.declared.task.Poll.TheVariants.{Ready, Pending}
use Rattle.pg_wire.specs.declared.error.Error.{Error}
use Rattle.pg_stream.specs.Links.{LinkSeen}
use Rattle.pg_locks.specs.declared.key.PgAdvisoryLockKey.{PgAdvisoryLockKey}
use Rattle.pg_locks.specs.Locks.{lock_statement, unlock_query}
use Rattle.pg_call.specs.declared.query_result.PgQueryResult.{PgQueryResult}
use Rattle.pg_call.specs.declared.statement.Prepared.{Prepared}
use Rattle.pg_conn.specs.Connections.{ConnSeen, left, started_call, started_next}
use Rattle.pg_conn.specs.Holding.{IsRelease, gave_up}
use Rattle.pg_conn.specs.States.{to_prepare, untyped}
use Rattle.pg_conn.specs.Turns.{HasAllRoom}
use Rattle.pg_conn.proofs.CleanupLaws.{all_left, all_started}
use Rattle.pg_conn.proofs.HoldingLaws.{all_held, all_gave_up, all_took_held, all_next}
use Rattle.pg_conn.proofs.StateLaws.{keeps_all_room}
use Rattle.pg_locking.specs.Rooms.{IsHeld, IsUnheld, IsHeldFor, given_if}
use Rattle.pg_locking.specs.Flags.{PollsFlag, PollsOn, flag_request, forgot_if, kept_by, left_asking, left_releasing}
use Rattle.pg_locking.specs.Locking.{LockedBy, Locks, LocksBehind, PollsLock, PreparesLock, is_asked, is_due, left_locking, lock_at, lock_request, release_if}
use Rattle.pg_locking.specs.declared.flag_call.Asking.{Asking}
use Rattle.pg_locking.specs.declared.flag_call.Asking.TheVariants as askings
use Rattle.pg_locking.specs.declared.lock_call.Stage.{Stage}
use Rattle.pg_locking.specs.declared.lock_call.Stage.TheVariants as stages

-- ---- the room of a guard

all_unheld : (a b : ConnSeen) → IsUnheld a b → HasAllRoom a → HasAllRoom b
all_unheld a b u h = subst (λ (c : ConnSeen). HasAllRoom c) (sym u.2) (omega (arith, h, u.1))

all_is_held : (a b : ConnSeen) → IsHeld a b → HasAllRoom b
all_is_held a b k = subst (λ (c : ConnSeen). HasAllRoom c) (sym k.2) (all_held a k.0 k.1)

all_held_for : (holds : Bool) (a b : ConnSeen) → IsHeldFor holds a b → HasAllRoom a → HasAllRoom b
all_held_for true a b k h = all_is_held a b k
all_held_for false a b k h = subst (λ (c : ConnSeen). HasAllRoom c) (sym k) h

all_given : (holds : Bool) (c : ConnSeen) → HasAllRoom c → HasAllRoom (given_if holds c)
all_given true c h = all_gave_up None c tt h
all_given false c h = h

-- ---- calls that are answered by a truth value

all_kept : (holds : Bool) (answer : Poll (Result Bool Error)) (m : ConnSeen) → HasAllRoom m → HasAllRoom (kept_by holds answer m)
all_kept holds Pending m h = h
all_kept holds (Ready (Ok true)) m h = h
all_kept holds (Ready (Ok false)) m h = all_given holds m h
all_kept holds (Ready (Err e)) m h = all_given holds m h

all_on : (holds : Bool) (a b : ConnSeen) (asking : Asking) (answer : Poll (Result Bool Error)) → PollsOn (λ (l : LinkSeen). l) holds a b asking answer → HasAllRoom a → HasAllRoom b
all_on holds a b asking answer p h = subst (λ (c : ConnSeen). HasAllRoom c) (sym p.3.keeps) (all_kept holds answer p.0 (keeps_all_room 256 a p.0 p.1 h p.2))

pub all_flag : (key : PgAdvisoryLockKey) (holds : Bool) (before after : Asking) (a b : ConnSeen) (answer : Poll (Result Bool Error)) → PollsFlag (λ (l : LinkSeen). l) key holds before a b after answer → HasAllRoom a → HasAllRoom b
all_flag key holds askings.Asked after a b answer (inl n) h = all_unheld a b n.0 h
all_flag key holds askings.Asked after a b answer (inr p) h = all_on holds (started_call (flag_request holds key) p.0) b after answer p.2 (all_started p.0 (flag_request holds key) (all_held_for holds a p.0 p.1 h))
all_flag key holds askings.Running after a b answer p h = all_on holds a b after answer p h
all_flag key holds askings.Over after a b answer p h = absurd p

pub all_left_asking : (holds : Bool) (asking : Asking) (c : ConnSeen) → HasAllRoom c → HasAllRoom (left_asking holds asking c)
all_left_asking holds askings.Asked c h = h
all_left_asking holds askings.Running c h = all_given holds (left c) (all_left c h)
all_left_asking holds askings.Over c h = h

pub all_forgot : (asking : Asking) (c : ConnSeen) → HasAllRoom c → HasAllRoom (forgot_if asking c)
all_forgot askings.Asked c h = all_took_held None c tt h
all_forgot askings.Running c h = h
all_forgot askings.Over c h = h

pub all_left_releasing : (key : PgAdvisoryLockKey) (asking : Asking) (c : ConnSeen) → IsRelease (unlock_query key) → HasAllRoom c → HasAllRoom (left_releasing key asking c)
all_left_releasing key askings.Asked c r h = all_took_held (Some (unlock_query key)) c r h
all_left_releasing key askings.Running c r h = all_left c h
all_left_releasing key askings.Over c r h = h

-- ---- a lock that is waited for

all_release_if : (due : Bool) (key : PgAdvisoryLockKey) (c : ConnSeen) → IsRelease (unlock_query key) → HasAllRoom c → HasAllRoom (gave_up (release_if due key) c)
all_release_if true key c r h = all_gave_up (Some (unlock_query key)) c r h
all_release_if false key c r h = all_gave_up None c tt h

all_locked : (key : PgAdvisoryLockKey) (at : ℕ) (total : Poll (Result PgQueryResult Error)) (m b : ConnSeen) (stage : Stage) (answer : Poll (Result (Unit {0}) Error)) → LockedBy key at total m b stage answer → IsRelease (unlock_query key) → HasAllRoom m → HasAllRoom b
all_locked key at Pending m b stage answer l r h = subst (λ (c : ConnSeen). HasAllRoom c) (sym l.0) h
all_locked key at (Ready (Ok total)) m b stage answer l r h = subst (λ (c : ConnSeen). HasAllRoom c) (sym l.0) h
all_locked key at (Ready (Err e)) m b stage answer l r h = subst (λ (c : ConnSeen). HasAllRoom c) (sym l.0) (all_release_if (is_due at e m) key m r h)

all_locks : (key : PgAdvisoryLockKey) (a b : ConnSeen) (stage : Stage) (answer : Poll (Result (Unit {0}) Error)) → Locks (λ (l : LinkSeen). l) key a b stage answer → IsRelease (unlock_query key) → HasAllRoom a → HasAllRoom b
all_locks key a b stage answer (inl n) r h = all_unheld a b n.0 h
all_locks key a b stage answer (inr p) r h =
    let started : HasAllRoom (started_next (lock_request key) p.0) = all_next p.0 (lock_request key) (all_is_held a p.0 p.3) in
    all_locked key (lock_at (lock_statement key) a) p.5.0 p.1 b stage answer p.5.2 r (keeps_all_room (started_next (lock_request key) p.0).stream.left (started_next (lock_request key) p.0) p.1 p.2 started p.4)

all_behind_it : (key : PgAdvisoryLockKey) (told : Poll (Result Prepared Error)) (m b : ConnSeen) (stage : Stage) (answer : Poll (Result (Unit {0}) Error)) → LocksBehind (λ (l : LinkSeen). l) key told m b stage answer → IsRelease (unlock_query key) → HasAllRoom m → HasAllRoom b
all_behind_it key Pending m b stage answer l r h = subst (λ (c : ConnSeen). HasAllRoom c) (sym l.0) h
all_behind_it key (Ready (Err e)) m b stage answer l r h = subst (λ (c : ConnSeen). HasAllRoom c) (sym l.0) h
all_behind_it key (Ready (Ok prepared)) m b stage answer l r h = all_locks key m b stage answer l r h

all_prepares : (key : PgAdvisoryLockKey) (a b : ConnSeen) (stage : Stage) (answer : Poll (Result (Unit {0}) Error)) → PreparesLock (λ (l : LinkSeen). l) key a b stage answer → IsRelease (unlock_query key) → HasAllRoom a → HasAllRoom b
all_prepares key a b stage answer p r h = all_behind_it key p.3.0 p.0 b stage answer p.3.2 r (keeps_all_room 256 a p.0 p.1 h p.2)

pub all_lock : (key : PgAdvisoryLockKey) (before after : Stage) (a b : ConnSeen) (answer : Poll (Result (Unit {0}) Error)) → PollsLock (λ (l : LinkSeen). l) key before a b after answer → IsRelease (unlock_query key) → HasAllRoom a → HasAllRoom b
all_lock key stages.Asked after a b answer (inl n) r h = subst (λ (c : ConnSeen). HasAllRoom c) (sym n.0) h
all_lock key stages.Asked after a b answer (inr p) r h = all_prepares key (started_call (to_prepare (untyped (lock_statement key))) a) b after answer p r (all_started a (to_prepare (untyped (lock_statement key))) h)
all_lock key stages.Preparing after a b answer p r h = all_prepares key a b after answer p r h
all_lock key (stages.Locking at) after a b answer p r h = all_locked key at p.3.0 p.0 b after answer p.3.2 r (keeps_all_room 256 a p.0 p.1 h p.2)
all_lock key stages.Over after a b answer p r h = absurd p

pub all_left_locking : (key : PgAdvisoryLockKey) (stage : Stage) (c : ConnSeen) → IsRelease (unlock_query key) → HasAllRoom c → HasAllRoom (left_locking key stage c)
all_left_locking key stages.Asked c r h = h
all_left_locking key stages.Preparing c r h = all_left c h
all_left_locking key (stages.Locking at) c r h = all_release_if (is_asked at c) key c r h
all_left_locking key stages.Over c r h = h
