-- What is seen of a pool, and what it hands out.
use Rattle.std.specs.Prelude.{◌≡◌, false, Option, Some, None, Result, Ok, Err, IsSome}
use Rattle.futures.specs.declared.task.Poll.{Poll}
use Rattle.futures.specs.declared.task.Poll.TheVariants.{Ready, Pending}
use Rattle.pg_wire.specs.declared.error.Error.{Error}
use Rattle.pg_options.specs.Options.{ConnectOptions}
use Rattle.pg_conn.specs.Connections.{ConnOf}
use Rattle.pg_conn.specs.Connecting.{ConnectingOf}
use Rattle.pg_pool.specs.Pools as pools
use Rattle.pg_pool.specs.declared.handed.Acquired.{Acquired}
use Rattle.pg_pool.specs.declared.handed.PoolConnection.{PoolConnection}
use Rattle.pg_pool.specs.declared.handed.Released.{Released}
use Rattle.pg_pool.specs.declared.handed.Ticket.{Ticket}

-- a pool's name, and how its connections are made
abbrev pub PoolSeen : Type 0
PoolSeen = pools.PoolSeen ConnectOptions

-- a connection that a pool handed out
abbrev pub HeldOf : Type 0 → Type 0
HeldOf A = PoolConnection (ConnOf A)

-- what an acquire hands out, and what became of a connection that was released
abbrev pub AcquiredOf : Type 0 → Type 0
AcquiredOf A = Acquired (ConnOf A)

abbrev pub ReleasedOf : Type 0 → Type 0
ReleasedOf A = Released (ConnOf A)

-- leave to make one
abbrev pub TicketSeen : Type 0
TicketSeen = Ticket

-- a start-up to a connection of a pool, and the leave to make it, until that is used
pub record FillingOf (A : Type 0) : Type 0 where
  pub connecting : ConnectingOf A
  pub ticket : Option Ticket

-- the leave is there until the start-up is over
abbrev pub CanFill : {A : Type 0} → FillingOf A → Type 0
CanFill f = f.connecting.startup.is_finished ≡ false → IsSome f.ticket

-- what the start-up itself answers
abbrev pub connection_of : {A : Type 0} → Poll (Result (HeldOf A) Error) → Poll (Result (ConnOf A) Error)
connection_of Pending = Pending
connection_of (Ready (Err e)) = Ready (Err e)
connection_of (Ready (Ok held)) = Ready (Ok held.conn)

-- the leave is used exactly where a connection is answered, which is of its id and its pool
abbrev pub UsesLeave : {A : Type 0} → Option Ticket → Option Ticket → Poll (Result (HeldOf A) Error) → Type 0
UsesLeave now new (Ready (Ok held)) = (now ≡ Some (record { id = held.id; name = held.name })) × (held.close ≡ false) × (new ≡ None)
UsesLeave now new _ = new ≡ now
