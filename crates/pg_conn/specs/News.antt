-- The notifications that a connection reads and gives (PostgreSQL manual, "Message Flow", "Asynchronous Operations": NotificationResponse).
use Rattle.std.specs.Prelude.{◌≡◌, ◌≢◌, ℕ, ◌-◌, ◌<◌, ◌≤◌, true, false, List, [], ◌∷◌, ◌++◌, Option, Some, None, Result, Ok, Err}
use Rattle.futures.specs.declared.task.Poll.{Poll}
use Rattle.futures.specs.declared.task.Poll.TheVariants.{Ready, Pending}
use Rattle.pg_wire.specs.declared.error.Error.{Error}
use Rattle.pg_wire.specs.declared.error.Error.TheVariants as errors
use Rattle.pg_wire.specs.declared.error.IoCause.TheVariants.{Fault, End}
use Rattle.pg_wire.specs.declared.error.ProtocolFault.TheVariants as protocol
use Rattle.pg_wire.specs.declared.error.ServerFault.{ServerFault}
use Rattle.pg_wire.specs.declared.error.ServerFault.TheVariants as faults
use Rattle.pg_wire.specs.declared.message.notification_response.Notification.{Notification}
use Rattle.pg_wire.specs.Frame.{Frame, bytes_of, backend_tags, IsWhole}
use Rattle.pg_wire.specs.Backend.{ErrorResponse, HasBackendFrame, backend_frame}
use Rattle.pg_wire.specs.Parts.{heard, is_asynchronous}
use Rattle.pg_stream.specs.Links.{GrewBy, NoneFalls, Rose}
use Rattle.pg_stream.specs.Notifications.{KeptSeen, NotifiesAll}
use Rattle.pg_stream.specs.Streams.{AllMoved, HeaderFault, PendingCause, StreamSeen, Takes, fuel_of}
use Rattle.pg_call.specs.Calls.{HasMessage}
use Rattle.pg_call.specs.declared.request.Request.TheVariants as requests
use Rattle.pg_conn.specs.Connections.{ConnOf, ConnSeen, begun_with, started_call}

-- what is kept of notifications, and nothing else, has changed
abbrev pub with_kept : {A : Type 0} → KeptSeen → ConnOf A → ConnOf A
with_kept kept c = record c { stream = record c.stream { notifications = kept } }

-- the notification that a poll gave
abbrev pub given : Poll (Result Notification Error) → List Notification
given (Ready (Ok news)) = news ∷ []
given _ = []

-- Between two states of a stream these frames were taken, which tell these notifications, and some were given. What was given, followed by what is kept
-- behind, is what was kept before, followed by what was read: in order, and once.
pub record ReadsNews (a b : StreamSeen) (gave : List Notification) : Type 0 where
  pub frames : List Frame
  pub news : List Notification
  pub counts : NoneFalls a.link b.link
  pub read : Takes a b frames
  pub told : NotifiesAll frames news
  pub kept : gave ++ b.notifications.kept ≡ a.notifications.kept ++ news
  pub keeping : b.notifications.keeping ≡ true

-- the same, by the calls of the link that it took off
pub record NewsStep (left now : ℕ) (a b : StreamSeen) (gave : List Notification) : Type 0 where
  pub reads : ReadsNews a b gave
  pub fewer : now ≤ left
  pub calls : GrewBy (left - now) a.link.calls b.link.calls

-- a message with this tag stands at the front of what is held, which is no asynchronous message
pub record StandsInFront (held : List ℕ) (tag : ℕ) : Type 0 where
  pub front : Frame
  pub rest : List ℕ
  pub whole : IsWhole backend_tags front
  pub parts : held ≡ bytes_of front ++ rest
  pub tagged : front.tag ≡ tag

-- Why a poll fails while no reply is owed: no message may come then but an asynchronous one, and an ErrorResponse, whose tag is 69.
abbrev pub UnaskedFault : StreamSeen → StreamSeen → Error → Type 0
UnaskedFault a b (errors.Io Fault) = Rose a.link.faults b.link.faults
UnaskedFault a b (errors.Io End) = Rose a.link.ends b.link.ends × (b.unsent ≡ [])
UnaskedFault a b (errors.Protocol (protocol.Server (faults.Malformed tag))) = (f : StandsInFront b.held tag) × (HasMessage f.front → ⊥)
UnaskedFault a b (errors.Protocol (protocol.Server (faults.Unlawful tag))) = (f : StandsInFront b.held tag) × (is_asynchronous f.front ≡ false) × (tag ≢ 69)
UnaskedFault a b (errors.Protocol (protocol.Server fault)) = HeaderFault b.held fault
UnaskedFault a b errors.OutOfMemory = Unit {0}
UnaskedFault a b _ = ⊥

-- the same where one may be owed: an error that is told stands in a reply that was
abbrev pub NewsFault : StreamSeen → StreamSeen → Error → Type 0
NewsFault a b (errors.Database e) = (frames : List Frame) × (front : List Frame) × Takes a b frames × (heard frames ≡ front ++ backend_frame (ErrorResponse e) ∷ []) × HasBackendFrame (ErrorResponse e)
NewsFault a b e = UnaskedFault a b e

-- a connection that the server broke answers the fault that broke it
abbrev pub NewsFails : Option ServerFault → StreamSeen → StreamSeen → Error → Type 0
NewsFails (Some fault) a b e = e ≡ errors.Protocol (protocol.Server fault)
NewsFails None a b e = NewsFault a b e

-- why a poll answers as it does: where it waits, none is kept
abbrev pub NewsCause : Option ServerFault → StreamSeen → StreamSeen → Poll (Result Notification Error) → Type 0
NewsCause broken a b (Ready (Ok news)) = Unit {0}
NewsCause broken a b (Ready (Err e)) = NewsFails broken a b e
NewsCause broken a b Pending = PendingCause a b × (b.notifications.kept ≡ [])

-- a fault of the server breaks the connection
abbrev pub BreaksBy : Option ServerFault → Poll (Result Notification Error) → Type 0
BreaksBy broken (Ready (Err (errors.Protocol (protocol.Server fault)))) = broken ≡ Some fault
BreaksBy broken _ = Unit {0}

-- what is owed is read away first, as by a flush
abbrev pub flushing : ℕ → ConnSeen → ConnSeen
flushing left c = begun_with left (started_call requests.Flush c)

-- where one is kept, the oldest is given, and nothing else is done
abbrev pub GivesKept : ℕ → ℕ → ConnSeen → ConnSeen → Poll (Result Notification Error) → List Notification → Type 0
GivesKept left now a b answer [] = Unit {0}
GivesKept left now a b answer (oldest ∷ later) = (answer ≡ Ready (Ok oldest)) × (now ≡ left) × (b ≡ with_kept (record a.stream.notifications { kept = later }) a)

-- what such a poll read and gave, and why it answers as it does
pub record FindsNews (left now : ℕ) (a b : ConnSeen) (answer : Poll (Result Notification Error)) : Type 0 where
  pub step : NewsStep left now a.stream b.stream (given answer)
  pub cause : NewsCause a.broken (flushing left a).stream b.stream answer
  pub breaks : BreaksBy b.broken answer

-- A poll for a notification, within so many calls of the link.
pub record PollsNews (left now : ℕ) (a b : ConnSeen) (answer : Poll (Result Notification Error)) : Type 0 where
  pub finds : FindsNews left now a b answer
  pub oldest : GivesKept left now a b answer a.stream.notifications.kept

-- ---- within such a poll

-- why the flush ends: at its Ok nothing is owed, and all is sent
abbrev pub DrainCause : Option ServerFault → ℕ → StreamSeen → ConnSeen → Poll (Result (Unit {0}) Error) → Type 0
DrainCause broken now a b Pending = PendingCause a b.stream
DrainCause broken now a b (Ready (Err e)) = NewsFails broken a b.stream e
DrainCause broken now a b (Ready (Ok u)) = (broken ≡ None) × (b.broken ≡ None) × AllMoved a b.stream × (b.stream.left ≤ a.left) × (b.stream.unsent ≡ []) × (b.ledger.owed ≡ 0) × (now ≡ b.stream.left)

-- the answer of a flush as that of a poll for a notification, where it gives none
abbrev pub without_news : Poll (Result (Unit {0}) Error) → Poll (Result Notification Error)
without_news (Ready (Err e)) = Ready (Err e)
without_news _ = Pending

pub record Drains (left now : ℕ) (a b : ConnSeen) (answer : Poll (Result (Unit {0}) Error)) : Type 0 where
  pub step : NewsStep left now a.stream b.stream []
  pub cause : DrainCause a.broken now (flushing left a).stream b answer
  pub breaks : BreaksBy b.broken (without_news answer)

-- one notification is awaited with nothing owed
abbrev pub UnaskedCause : StreamSeen → StreamSeen → Poll (Result Notification Error) → Type 0
UnaskedCause a b (Ready (Ok news)) = Unit {0}
UnaskedCause a b (Ready (Err e)) = UnaskedFault a b e
UnaskedCause a b Pending = PendingCause a b × (b.notifications.kept ≡ [])

pub record AwaitsNews (a b : StreamSeen) (answer : Poll (Result Notification Error)) : Type 0 where
  pub step : NewsStep a.left b.left a b (given answer)
  pub cause : UnaskedCause a b answer

-- nothing but asynchronous messages and errors was taken, none of which told a notification that is kept
pub record AwaitsOn (a b : StreamSeen) : Type 0 where
  pub step : NewsStep a.left b.left a b []
  pub moved : AllMoved a b
  pub none : b.notifications.kept ≡ []

-- one frame more, or the answer
abbrev pub AwaitsOnce : StreamSeen → StreamSeen → Option (Poll (Result Notification Error)) → Type 0
AwaitsOnce a b None = AwaitsOn a b × (fuel_of b < fuel_of a)
AwaitsOnce a b (Some answer) = AwaitsNews a b answer
