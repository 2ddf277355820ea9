-- What is owed between any two polls.
use Rattle.std.specs.Prelude.{◌≡◌, ◌+◌, count_by, List}
use Rattle.pg_wire.specs.Frame.{Frame}
use Rattle.pg_wire.specs.Parts.{is_ready}
use Rattle.pg_wire.specs.Frontend.{FrontendMessage}
use Rattle.pg_stream.specs.Streams.{Sends, Takes}
use Rattle.pg_call.specs.Requests.{spelled}
use Rattle.pg_conn.specs.Connections.{ConnSeen}
use Rattle.pg_conn.specs.Turns.{ends_request}

-- From a to b these messages were queued and these frames taken. One reply more is owed for each Query and Sync among the messages, and
-- one less for each ReadyForQuery among the frames ("Simple Query", "Extended Query").
pub record Owes (a b : ConnSeen) (said : List FrontendMessage) (frames : List Frame) : Type 0 where
  pub sent : Sends a.stream b.stream (spelled said)
  pub read : Takes a.stream b.stream frames
  pub owed : count_by is_ready frames + b.ledger.owed ≡ a.ledger.owed + count_by ends_request said

abbrev pub OwesSome : ConnSeen → ConnSeen → Type 0
OwesSome a b = (said : List FrontendMessage) × (frames : List Frame) × Owes a b said frames
