-- How a start-up comes to a connection.
use Rattle.std.specs.Prelude.{◌≡◌, ℕ, Result, Ok, Err}
use Rattle.futures.specs.declared.task.Poll.{Poll}
use Rattle.futures.specs.declared.task.Poll.TheVariants.{Ready, Pending}
use Rattle.pg_wire.specs.declared.error.Error.{Error}
use Rattle.pg_stream.specs.Links.{LinkSeen}
use Rattle.pg_startup.specs.Handshake.{ReadyOf}
use Rattle.pg_startup.specs.Establishing.{EstablishOf, establish_by, ready_seen, PollsStart}
use Rattle.pg_conn.specs.Connections.{ConnOf, fresh_connection}

-- a start-up, and how many statements its connection may keep
pub record ConnectingOf (A : Type 0) : Type 0 where
  pub startup : EstablishOf A
  pub capacity : ℕ

-- the connection over what a session begins with: it keeps no statements yet
abbrev pub connected : {A : Type 0} → ℕ → Poll (Result (ReadyOf A) Error) → Poll (Result (ConnOf A) Error)
connected capacity Pending = Pending
connected capacity (Ready (Err e)) = Ready (Err e)
connected capacity (Ready (Ok ready)) = Ready (Ok (fresh_connection capacity ready.stream ready.sent ready.read))

-- a poll of the start-up, and the connection that it answers
abbrev pub PollsConnect : {A : Type 0} → (A → LinkSeen) → ℕ → ℕ → ConnectingOf A → ConnectingOf A → Poll (Result (ConnOf A) Error) → Type 0
PollsConnect {A} seen left now a b answer = (ready : Poll (Result (ReadyOf A) Error)) × PollsStart left now (establish_by seen a.startup) (establish_by seen b.startup) (ready_seen seen ready) × (answer ≡ connected a.capacity ready) × (b.capacity ≡ a.capacity)
