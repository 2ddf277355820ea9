-- The calls about locks, each by the calls of the connection that it is made of.
use Rattle.std.proofs.Common.{◌≡◌, inr, ℕ, Bool, true, Result, refl, sym, ap, ◌∙◌, subst}
use Rattle.futures.specs.declared.task.Poll.{Poll}
use Rattle.futures.specs.declared.task.Poll.TheVariants.{Ready}
use Rattle.pg_wire.specs.declared.error.Error.{Error}
use Rattle.pg_stream.specs.Links.{LinkSeen}
use Rattle.pg_locks.specs.declared.key.PgAdvisoryLockKey.{PgAdvisoryLockKey}
use Rattle.pg_locks.specs.Locks.{lock_statement}
use Rattle.pg_call.specs.declared.answer.Turn.{Turn}
use Rattle.pg_call.specs.declared.kind.How.TheVariants as hows
use Rattle.pg_call.specs.declared.kind.Kind.TheVariants as kinds
use Rattle.pg_conn.specs.Connections.{ConnOf, runs, seen_by, started_call, started_next}
use Rattle.pg_conn.specs.States.{IsCalling, PollFits, to_prepare, turn_of, untyped}
use Rattle.pg_conn.specs.Turns.{PollsMore}
use Rattle.pg_conn.proofs.StateLaws.{more_fits, next_calling, started_calling}
use Rattle.pg_locking.specs.Rooms.{IsHeld, IsHeldFor}
use Rattle.pg_locking.specs.Flags.{PollsFlag, PollsOn, flag_request}
use Rattle.pg_locking.specs.Locking.{HearsLocked, Locks, PollsLock, PreparesLock, lock_at, lock_request}
use Rattle.pg_locking.specs.declared.flag_call.Asking.{Asking}
use Rattle.pg_locking.specs.declared.flag_call.Asking.TheVariants as askings
use Rattle.pg_locking.specs.declared.lock_call.Stage.{Stage}
use Rattle.pg_locking.specs.declared.lock_call.Stage.TheVariants as stages

-- what a poll has told, by what was made of it
pub heard : {X : Type 0} (f : X → Turn) (answer : Poll Turn) (turn : Turn) (told x : X) → answer ≡ Ready turn → turn ≡ f told → told ≡ x → answer ≡ turn_of f (Ready x)
heard f answer turn told x a t e = a ∙ ap (λ (y : Turn). Ready y) (t ∙ ap f e)

-- ---- a lock that is waited for

-- its statement runs behind its preparation
abbrev pub RunsLock : {A : Type 0} → PgAdvisoryLockKey → ConnOf A → ConnOf A → Type 0
RunsLock {A} key a c = (h : ConnOf A) × IsHeld a h × (c ≡ started_next (lock_request key) h)

pub lock_runs : {A : Type 0} (key : PgAdvisoryLockKey) (a c : ConnOf A) → RunsLock key a c → runs c.call ≡ true
lock_runs key a c k = subst (λ (x : ConnOf _). runs x.call ≡ true) (sym k.2) refl

pub lock_fits : {A : Type 0} (seen : A → LinkSeen) (key : PgAdvisoryLockKey) (a c m : ConnOf A) (turn : Poll Turn) → RunsLock key a c → PollsMore (seen_by seen c) (seen_by seen m) turn → PollFits (kinds.Run hows.Execute) m turn
lock_fits seen key a c m turn k p = more_fits seen c m (kinds.Run hows.Execute) turn p (subst (λ (x : ConnOf _). IsCalling (kinds.Run hows.Execute) x) (sym k.2) (next_calling (lock_request key) k.0 refl))

pub lock_on : {A : Type 0} (seen : A → LinkSeen) (key : PgAdvisoryLockKey) (at : ℕ) (a c m b : ConnOf A) (turn : Poll Turn) (stage : Stage) (answer : Poll (Result (Unit {0}) Error)) → RunsLock key a c → at ≡ lock_at (lock_statement key) a
    → PollsMore (seen_by seen c) (seen_by seen m) turn → HearsLocked key at turn m b stage answer → Locks seen key a b stage answer
lock_on seen key at a c m b turn stage answer k e p h =
    inr (k.0, m, turn, k.1, subst (λ (x : ConnOf _). PollsMore (seen_by seen x) (seen_by seen m) turn) k.2 p, subst (λ (n : ℕ). HearsLocked key n turn m b stage answer) e h)

-- its first poll
pub prepare_calls : {A : Type 0} (key : PgAdvisoryLockKey) (a c : ConnOf A) → c ≡ started_call (to_prepare (untyped (lock_statement key))) a → IsCalling kinds.Prepare c
prepare_calls key a c e = subst (λ (x : ConnOf _). IsCalling kinds.Prepare x) (sym e) (started_calling (to_prepare (untyped (lock_statement key))) a refl)

pub prepares_first : {A : Type 0} (seen : A → LinkSeen) (key : PgAdvisoryLockKey) (a c b : ConnOf A) (stage : Stage) (answer : Poll (Result (Unit {0}) Error)) → c ≡ started_call (to_prepare (untyped (lock_statement key))) a → PreparesLock seen key c b stage answer
    → PollsLock seen key stages.Asked a b stage answer
prepares_first seen key a c b stage answer e p = inr (subst (λ (x : ConnOf _). PreparesLock seen key x b stage answer) e p)

-- ---- a call that is answered by a truth value

abbrev pub RunsFlag : {A : Type 0} → PgAdvisoryLockKey → Bool → ConnOf A → ConnOf A → Type 0
RunsFlag {A} key holds a c = (h : ConnOf A) × IsHeldFor holds a h × (c ≡ started_call (flag_request holds key) h)

pub flag_calls : {A : Type 0} (key : PgAdvisoryLockKey) (holds : Bool) (a c : ConnOf A) → RunsFlag key holds a c → IsCalling (kinds.Run hows.FetchOne) c
flag_calls key holds a c k = subst (λ (x : ConnOf _). IsCalling (kinds.Run hows.FetchOne) x) (sym k.2) (started_calling (flag_request holds key) k.0 refl)

pub flag_first : {A : Type 0} (seen : A → LinkSeen) (key : PgAdvisoryLockKey) (holds : Bool) (a c b : ConnOf A) (asking : Asking) (answer : Poll (Result Bool Error)) → RunsFlag key holds a c → PollsOn seen holds c b asking answer → PollsFlag seen key holds askings.Asked a b asking answer
flag_first seen key holds a c b asking answer k p = inr (k.0, k.1, subst (λ (x : ConnOf _). PollsOn seen holds x b asking answer) k.2 p)
