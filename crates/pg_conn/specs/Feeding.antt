-- A copy from the client that is open, and is fed.
use Rattle.std.specs.Prelude.{◌≡◌, Result, Err, Option, Some, None}
use Rattle.futures.specs.declared.task.Poll.{Poll}
use Rattle.futures.specs.declared.task.Poll.TheVariants.{Ready}
use Rattle.pg_wire.specs.declared.error.Error.{Error}
use Rattle.pg_wire.specs.declared.error.Error.TheVariants as errors
use Rattle.pg_wire.specs.declared.error.ProtocolFault.TheVariants as protocol
use Rattle.pg_wire.specs.declared.error.ServerFault.{ServerFault}
use Rattle.pg_stream.specs.Streams.{PollsSend, StreamSeen}
use Rattle.pg_call.specs.declared.kind.Kind.TheVariants as kinds
use Rattle.pg_call.specs.Hearing.{IsOpen}
use Rattle.pg_conn.specs.Connections.{ConnOf, ConnSeen, begun}
use Rattle.pg_conn.specs.States.{IsCalling}

-- its call runs, and data is awaited
abbrev pub IsFed : {A : Type 0} → ConnOf A → Type 0
IsFed c = IsCalling kinds.CopyIn c × IsOpen c.call

-- what is queued is sent, with the calls of the link that are left, and nothing else is done
abbrev pub PollsFedBy : Option ServerFault → ConnSeen → ConnSeen → Poll (Result (Unit {0}) Error) → Type 0
PollsFedBy None a b answer = (t : StreamSeen) × PollsSend a.stream t answer × (b ≡ record a { stream = t })
PollsFedBy (Some fault) a b answer = (b ≡ a) × (answer ≡ Ready (Err (errors.Protocol (protocol.Server fault))))

abbrev pub FeedsMore : ConnSeen → ConnSeen → Poll (Result (Unit {0}) Error) → Type 0
FeedsMore a b answer = PollsFedBy a.broken a b answer

-- one poll that does so
abbrev pub PollsFed : ConnSeen → ConnSeen → Poll (Result (Unit {0}) Error) → Type 0
PollsFed a b answer = FeedsMore (begun a) b answer
