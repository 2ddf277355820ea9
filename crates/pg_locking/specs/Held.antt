-- What a state has of what holds the connection.
use Rattle.std.specs.Prelude.{◌≡◌, Bool, true, false, Option, Some, None, Result, Ok, Err}
use Rattle.either.specs.declared.Either.{Either}
use Rattle.either.specs.declared.Either.TheVariants.{Left, Right}
use Rattle.futures.specs.declared.task.Poll.{Poll}
use Rattle.futures.specs.declared.task.Poll.TheVariants.{Ready, Pending}
use Rattle.pg_wire.specs.declared.error.Error.{Error}
use Rattle.pg_locks.specs.declared.key.PgAdvisoryLockKey.{PgAdvisoryLockKey}
use Rattle.pg_conn.specs.Connections.{ConnOf}

-- this holds of the connection that is held
abbrev pub OnHeld : {C A : Type 0} → (C → ConnOf A) → (ConnOf A → Type 0) → Option C → Type 0
OnHeld conn P None = ⊥
OnHeld conn P (Some c) = P (conn c)

-- and stays so while it waits
abbrev pub StaysHeld : {C A X : Type 0} → (C → ConnOf A) → (ConnOf A → Type 0) → Option C → Poll X → Type 0
StaysHeld conn P held Pending = OnHeld conn P held
StaysHeld conn P held (Ready x) = Unit {0}

-- an answer of a state as one of its call
abbrev pub answer_by : {X Y : Type 0} → (X → Y) → Poll (Result X Error) → Poll (Result Y Error)
answer_by f Pending = Pending
answer_by f (Ready (Ok x)) = Ready (Ok (f x))
answer_by f (Ready (Err e)) = Ready (Err e)

-- the same of an end alone
abbrev pub end_of : {X : Type 0} → Poll (Result X Error) → Poll (Result (Unit {0}) Error)
end_of Pending = Pending
end_of (Ready (Ok x)) = Ready (Ok tt)
end_of (Ready (Err e)) = Ready (Err e)

-- a lock was taken, or not
abbrev pub is_taken : {G C : Type 0} → Either G C → Bool
is_taken (Left guard) = true
is_taken (Right c) = false

abbrev pub holder_in : {G C : Type 0} → (G → C) → Either G C → C
holder_in conn (Left guard) = conn guard
holder_in conn (Right c) = c

-- a guard that is answered is one of this lock
abbrev pub GuardsKey : {G : Type 0} → (G → PgAdvisoryLockKey) → PgAdvisoryLockKey → Poll (Result G Error) → Type 0
GuardsKey read key (Ready (Ok guard)) = read guard ≡ key
GuardsKey read key answer = Unit {0}

abbrev pub MayGuardKey : {G C : Type 0} → (G → PgAdvisoryLockKey) → PgAdvisoryLockKey → Poll (Result (Either G C) Error) → Type 0
MayGuardKey read key (Ready (Ok (Left guard))) = read guard ≡ key
MayGuardKey read key answer = Unit {0}
