-- Data of a copy from the client, in pieces (PostgreSQL manual, "Message Flow", "COPY Operations").
use Rattle.std.specs.Prelude.{◌≡◌, ◌<◌, ◌≤◌, ◌+◌, ◌⊎◌, ℕ, Bool, true, false, List, [], ◌∷◌, ◌++◌, map, flat_map, take, drop, length, Some, Result, Ok, Err}
use Rattle.std.specs.List.{AllByRecursion}
use Rattle.std.specs.Io.KnownBytes.{Consumes, IsAtEnd, Keeps}
use Rattle.futures.specs.declared.task.Poll.{Poll}
use Rattle.futures.specs.declared.task.Poll.TheVariants.{Ready, Pending}
use Rattle.pg_wire.specs.declared.error.Error.{Error}
use Rattle.pg_wire.specs.declared.error.Error.TheVariants as errors
use Rattle.pg_wire.specs.declared.error.IoCause.TheVariants as io
use Rattle.pg_wire.specs.declared.error.ProtocolFault.TheVariants as protocol
use Rattle.pg_wire.specs.Frontend.{CopyData}
use Rattle.pg_stream.specs.Links.{LinkSeen, Rose}
use Rattle.pg_stream.specs.Outside.{SourceSeen}
use Rattle.pg_stream.specs.Streams.{AllMoved, Moves, NoneWaited}
use Rattle.pg_call.specs.Requests.{spelled}
use Rattle.pg_conn.specs.Connections.{ConnOf, ConnSeen, begun, piece_of, seen_by, with_messages}
use Rattle.pg_conn.specs.Turns.{SendCause}

-- a piece is one message of data: it is not empty, and has so many bytes at most
abbrev pub IsPiece : ℕ → List ℕ → Type 0
IsPiece most piece = (0 < length piece) × (length piece ≤ most)

abbrev pub joined : List (List ℕ) → List ℕ
joined pieces = flat_map (λ piece. piece) pieces

-- From a to b these pieces were queued, each as one message, and a front of what was unsent is sent. Nothing was read, and nothing else of the connection is different.
pub record Feeds (a b : ConnSeen) (pieces : List (List ℕ)) : Type 0 where
  pub moves : Moves a.stream b.stream (spelled (map CopyData pieces)) []
  pub held : b.stream.held ≡ a.stream.held
  pub spare : b.stream.spare ≡ a.stream.spare
  pub same : b ≡ record a { stream = b.stream }

-- all is sent, and no call of the link waited
abbrev pub AllSent : ConnSeen → ConnSeen → Type 0
AllSent a b = (b.stream.unsent ≡ []) × AllMoved a.stream b.stream

-- why it fails: memory is wanting for the next piece, once all before it is sent; or a write failed; or the server has broken the connection
abbrev pub FeedFails : ConnSeen → ConnSeen → Error → Type 0
FeedFails a b errors.OutOfMemory = AllSent a b
FeedFails a b (errors.Io io.Fault) = Rose a.stream.link.faults b.stream.link.faults × NoneWaited a.stream b.stream
FeedFails a b (errors.Protocol (protocol.Server fault)) = a.broken ≡ Some fault
FeedFails a b _ = ⊥

-- ---- pieces of some bytes

-- the first of these bytes were queued as one piece
abbrev pub QueuesPiece : {A : Type 0} → ConnOf A → ConnOf A → List ℕ → ℕ → Type 0
QueuesPiece a b rest n = (0 < n) × (n ≤ length rest) × (n ≤ 1073741818) × (b ≡ with_messages (piece_of (take n rest)) a)

-- how it ends, where so many of these bytes were queued
abbrev pub SendEnds : ConnSeen → ConnSeen → List ℕ → ℕ → Poll (Result (Unit {0}) Error) → Type 0
SendEnds a b rest n Pending = SendCause a b
SendEnds a b rest n (Ready (Ok u)) = (n ≡ length rest) × AllSent a b
SendEnds a b rest n (Ready (Err e)) = FeedFails a b e

-- so many of these bytes were queued, in pieces
pub record SendsRest (a b : ConnSeen) (rest : List ℕ) (n : ℕ) (answer : Poll (Result (Unit {0}) Error)) : Type 0 where
  pub pieces : List (List ℕ)
  pub each : AllByRecursion (IsPiece 1073741818) pieces
  pub feeds : Feeds a b pieces
  pub within : n ≤ length rest
  pub are : joined pieces ≡ take n rest
  pub ends : SendEnds a b rest n answer

-- one poll that sends these bytes, of which so many are queued before and behind it: nothing is done where there are none
abbrev pub PollsSending : {A : Type 0} → (A → LinkSeen) → ConnOf A → ConnOf A → List ℕ → ℕ → ℕ → Poll (Result (Unit {0}) Error) → Type 0
PollsSending seen a b [] before after answer = (b ≡ a) × (after ≡ before) × (answer ≡ Ready (Ok tt))
PollsSending seen a b (byte ∷ bytes) before after answer = (n : ℕ) × (after ≡ before + n) × SendsRest (begun (seen_by seen a)) (seen_by seen b) (drop before (byte ∷ bytes)) n answer

-- ---- pieces that a source gives

-- one read of a source, whose piece is queued: at the source's end there is none
abbrev pub ReadsPiece : {A : Type 0} → ConnOf A → ConnOf A → SourceSeen → SourceSeen → Result Bool Error → Type 0
ReadsPiece a b s t (Ok true) = (piece : List ℕ) × IsPiece 8192 piece × Consumes s.left t.left piece × (t.faults ≡ s.faults) × (b ≡ with_messages (piece_of piece) a)
ReadsPiece a b s t (Ok false) = Keeps s.left t.left × IsAtEnd t.left × (t.faults ≡ s.faults) × (b ≡ a)
ReadsPiece a b s t (Err (errors.Io io.Source)) = Keeps s.left t.left × Rose s.faults t.faults × (b ≡ a)
ReadsPiece a b s t (Err errors.OutOfMemory) = (lost : List ℕ) × IsPiece 8192 lost × Consumes s.left t.left lost × (t.faults ≡ s.faults) × (b ≡ a)
ReadsPiece a b s t (Err e) = ⊥

-- What is queued is what was read, but for a piece that there was no memory for. Ok comes where the source has said its end and all is sent, and a failure of the source only where it has
-- failed. It waits behind 256 pieces, too.
abbrev pub ReadEnds : ConnSeen → ConnSeen → SourceSeen → SourceSeen → List (List ℕ) → Poll (Result (Unit {0}) Error) → Type 0
ReadEnds a b s t pieces Pending = Consumes s.left t.left (joined pieces) × (t.faults ≡ s.faults) × (SendCause a b ⊎ ((length pieces ≡ 256) × AllSent a b))
ReadEnds a b s t pieces (Ready (Ok u)) = Consumes s.left t.left (joined pieces) × IsAtEnd t.left × (t.faults ≡ s.faults) × AllSent a b
ReadEnds a b s t pieces (Ready (Err (errors.Io io.Source))) = Consumes s.left t.left (joined pieces) × Rose s.faults t.faults × AllSent a b
ReadEnds a b s t pieces (Ready (Err errors.OutOfMemory)) = (lost : List ℕ) × IsPiece 8192 lost × Consumes s.left t.left (joined pieces ++ lost) × (t.faults ≡ s.faults) × AllSent a b
ReadEnds a b s t pieces (Ready (Err e)) = Consumes s.left t.left (joined pieces) × (t.faults ≡ s.faults) × FeedFails a b e

-- one poll of it
pub record ReadsOn (a b : ConnSeen) (s t : SourceSeen) (answer : Poll (Result (Unit {0}) Error)) : Type 0 where
  pub pieces : List (List ℕ)
  pub most : length pieces ≤ 256
  pub each : AllByRecursion (IsPiece 8192) pieces
  pub feeds : Feeds a b pieces
  pub ends : ReadEnds a b s t pieces answer

-- the source was read to its end
abbrev pub is_read : Poll (Result (Unit {0}) Error) → Bool
is_read (Ready (Ok u)) = true
is_read (Ready (Err e)) = false
is_read Pending = false
