-- What a copy over a pool makes of what an acquire answered, and what is left of it for the pool.
use Rattle.std.specs.Prelude.{ℕ, ◌≡◌, Bool, List, Option, Some, None, IfSome, Result, Ok, Err}
use Rattle.pg_wire.specs.declared.error.Error.{Error}
use Rattle.pg_request.specs.Queries.{plain_text}
use Rattle.pg_call.specs.declared.request.Request.{Request}
use Rattle.pg_call.specs.declared.request.Request.TheVariants as requests
use Rattle.pg_conn.specs.Connections.{ConnOf, left_by}
use Rattle.pg_copying.specs.declared.copy_in.BeginCopyIn.{BeginCopyIn}
use Rattle.pg_copying.specs.Copies.{unfed_copy}
use Rattle.pg_pool.specs.declared.handed.Acquired.{Acquired}
use Rattle.pg_pool.specs.declared.handed.Acquired.TheVariants as acquired
use Rattle.pg_pool.specs.declared.handed.PoolConnection.{PoolConnection}
use Rattle.pg_pool.specs.declared.handed.Released.{Released}
use Rattle.pg_pool.specs.Pools.{Section}
use Rattle.pg_pool.specs.Seats.{SeatSeen}
use Rattle.pg_pool.specs.Sections.{Acquires, Releases}
use Rattle.pg_copying.specs.declared.pool_copy.PoolCopy.{PoolCopy}
use Rattle.pg_copying.specs.declared.pool_copy.PoolCopy.TheVariants as copies

-- it is the copy by this text over what holds a connection, before its first poll
abbrev pub IsNewCopyIn : {C A : Type 0} → List ℕ → C → BeginCopyIn C A → Type 0
IsNewCopyIn sql c state = state ≡ record { conn = Some c; request = Some (requests.CopyIn (unfed_copy sql)) }

abbrev pub IsNewCopyOut : {C : Type 0} → List ℕ → C → C → Option Request → Type 0
IsNewCopyOut sql c conn request = (conn ≡ c) × (request ≡ Some (requests.CopyOut (plain_text sql)))

-- what is made of what was acquired: a copy begins over the connection, and leave is handed on
abbrev pub BegunOver : {C S : Type 0} → Acquired C → PoolCopy S → (PoolConnection C → S → Type 0) → Type 0
BegunOver (acquired.Idle held) (copies.Started state) begins = begins held state
BegunOver (acquired.New ticket) (copies.New handed) begins = handed ≡ ticket
BegunOver _ _ begins = ⊥

-- and so is a refusal
abbrev pub CopiedOver : {C S : Type 0} → Result (Acquired C) Error → Result (PoolCopy S) Error → (PoolConnection C → S → Type 0) → Type 0
CopiedOver (Ok got) (Ok copy) begins = BegunOver got copy begins
CopiedOver (Err e) (Err told) begins = told ≡ e
CopiedOver _ _ begins = ⊥

-- The lock is taken once, for an acquire, and the answer is made of what that one was answered. So a refusal has the place of the entry that this acquire added.
abbrev pub AcquiresFor : {C S : Type 0} → (C → Bool) → ℕ → SeatSeen → SeatSeen → Result (PoolCopy S) Error → (PoolConnection C → S → Type 0) → Type 0
AcquiresFor {C} clean most s t result begins = (answer : Result (Acquired C) Error) × Section clean most (λ a b. Acquires clean s t a b answer) × CopiedOver answer result begins

-- the connection that it begins over is of the pool of this name, or it is leave of that pool
abbrev pub IsOfPool : {C S : Type 0} → ℕ → (S → Option (PoolConnection C)) → PoolCopy S → Type 0
IsOfPool name conn (copies.Started state) = IfSome (conn state) (λ held. held.name ≡ name)
IsOfPool name conn (copies.New ticket) = ticket.name ≡ name

abbrev pub IfStarted : {S : Type 0} → (S → Type 0) → PoolCopy S → Type 0
IfStarted holds (copies.Started state) = holds state
IfStarted holds (copies.New ticket) = Unit {0}

-- ---- one that is given up

-- what a pool handed out, as the drop of a call's state leaves it, by the connection that it holds
abbrev pub left_held : {C A : Type 0} → (C → ConnOf A) → (C → ConnOf A → C) → Option Request → PoolConnection C → PoolConnection C
left_held conn with_conn request held = record held { conn = with_conn held.conn (left_by request (conn held.conn)) }

-- a connection of a pool
abbrev pub left_conn : {A : Type 0} → Option Request → PoolConnection (ConnOf A) → PoolConnection (ConnOf A)
left_conn request held = record held { conn = left_by request held.conn }

-- a release of this
abbrev pub ReleasesTo : {C : Type 0} → (C → Bool) → ℕ → SeatSeen → SeatSeen → PoolConnection C → Released C → Type 0
ReleasesTo clean most s t held released = Section clean most (λ a b. Releases clean s t a b held released)

-- a release of what is left, or nothing was held any more
abbrev pub ReleasesIfHeld : {C : Type 0} → (C → Bool) → ℕ → SeatSeen → SeatSeen → (PoolConnection C → PoolConnection C) → Option (PoolConnection C) → Option (Released C) → Type 0
ReleasesIfHeld clean most s t left (Some held) (Some released) = ReleasesTo clean most s t (left held) released
ReleasesIfHeld clean most s t left None None = t ≡ s
ReleasesIfHeld clean most s t left _ _ = ⊥
