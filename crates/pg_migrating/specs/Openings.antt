-- How a connection is opened over a dial: a start-up is begun, and polled.
use Rattle.std.specs.Prelude.{◌≡◌, ◌⊎◌, ℕ, ◌≤◌, List, [], ◌∷◌, Result, Ok, Err}
use Rattle.futures.specs.declared.task.Poll.{Poll}
use Rattle.futures.specs.declared.task.Poll.TheVariants.{Ready, Pending}
use Rattle.pg_wire.specs.declared.error.Error.{Error}
use Rattle.pg_options.specs.Options.{ConnectOptions}
use Rattle.pg_stream.specs.Links.{LinkSeen}
use Rattle.pg_conn.specs.Connecting.{ConnectingOf, PollsConnect}
use Rattle.pg_conn.specs.Connections.{ConnOf}
use Rattle.pg_conn.specs.Dialling.{Begun, FailsToBegin, Handing}
use Rattle.pg_conn.specs.Dials.{DialSeen}

-- a poll of it, within the calls of the link that are left, of the 256 that one poll of a caller may make
pub record Polls {A : Type 0} (seen : A → LinkSeen) (a b : ConnectingOf A) (answer : Poll (Result (ConnOf A) Error)) : Type 0 where
  pub left : ℕ
  pub now : ℕ
  pub few : left ≤ 256
  pub polls : PollsConnect seen left now a b answer

-- polls that waited, of which the last began in the first of these, took it from a to b
abbrev pub Waited : {A : Type 0} → (A → LinkSeen) → ConnectingOf A → List (ConnectingOf A) → ConnectingOf A → Type 0
Waited seen a [] b = b ≡ a
Waited seen a (last ∷ earlier) b = Polls seen last b Pending × Waited seen a earlier last

-- it is under way
pub record Starts {D A : Type 0} (seen : A → LinkSeen) (hands : Handing D A) (o : ConnectOptions) (d e : D) (now : ConnectingOf A) : Type 0 where
  pub first : ConnectingOf A
  pub earlier : List (ConnectingOf A)
  pub begun : Begun seen hands o d e first
  pub waited : Waited seen first earlier now

-- it has come to this connection
pub record Opened {D A : Type 0} (seen : A → LinkSeen) (hands : Handing D A) (o : ConnectOptions) (d e : D) (conn : ConnOf A) : Type 0 where
  pub last : ConnectingOf A
  pub behind : ConnectingOf A
  pub starts : Starts seen hands o d e last
  pub ends : Polls seen last behind (Ready (Ok conn))

-- ---- why there is none

-- the start-up ended by this error
pub record FailsStart {D A : Type 0} (seen : A → LinkSeen) (hands : Handing D A) (o : ConnectOptions) (d e : D) (error : Error) : Type 0 where
  pub last : ConnectingOf A
  pub behind : ConnectingOf A
  pub starts : Starts seen hands o d e last
  pub ends : Polls seen last behind (Ready (Err error))

abbrev pub FailsToOpen : {D A : Type 0} → (A → LinkSeen) → Handing D A → (D → DialSeen) → ConnectOptions → D → D → Error → Type 0
FailsToOpen seen hands counts o d e error = FailsToBegin seen hands counts o d e error ⊎ FailsStart seen hands o d e error
