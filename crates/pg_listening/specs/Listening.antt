-- A listener on the connection that it holds, and between two of them.
use Rattle.std.specs.Prelude.{◌≡◌, ℕ, Bool, true, false, List, [], ◌++◌, Option, Some, None, Result, Ok, Err, OnOk, IfErr}
use Rattle.futures.specs.declared.task.Poll.{Poll}
use Rattle.futures.specs.declared.task.Poll.TheVariants.{Ready, Pending}
use Rattle.pg_wire.specs.declared.error.Error.{Error}
use Rattle.pg_wire.specs.declared.error.Error.TheVariants as errors
use Rattle.pg_wire.specs.declared.message.notification_response.Notification.{Notification}
use Rattle.pg_stream.specs.Links.{LinkSeen}
use Rattle.pg_stream.specs.Notifications.{KeptSeen}
use Rattle.pg_stream.specs.Streams.{StreamSeen, stream_by}
use Rattle.pg_request.specs.Queries.{plain_text}
use Rattle.pg_call.specs.Answers.{total_turn}
use Rattle.pg_call.specs.declared.kind.How.TheVariants as hows
use Rattle.pg_call.specs.declared.kind.Kind.{Kind}
use Rattle.pg_call.specs.declared.kind.Kind.TheVariants as kinds
use Rattle.pg_call.specs.declared.answer.Turn.{Turn}
use Rattle.pg_call.specs.declared.answer.Turn.TheVariants as turns
use Rattle.pg_call.specs.declared.query_result.PgQueryResult.{PgQueryResult}
use Rattle.pg_call.specs.declared.request.Request.{Request}
use Rattle.pg_call.specs.declared.request.Request.TheVariants as requests
use Rattle.pg_conn.specs.Connections.{ConnOf, ConnSeen, seen_by, started_call}
use Rattle.pg_conn.specs.News.{with_kept}
use Rattle.pg_conn.specs.States.{IsCalling, PollFits, turn_of}
use Rattle.pg_conn.specs.Turns.{PollsWithin}
use Rattle.pg_learning.specs.declared.learnt.Learnt.{Learnt}
use Rattle.pg_learning.specs.Learning.{learnt_none}
use Rattle.pg_listening.specs.declared.channel_change.ChannelChange.{ChannelChange}
use Rattle.pg_listening.specs.declared.channel_change.ChannelChange.TheVariants as changes
use Rattle.pg_listening.specs.Changes.{changed, statement_of}
use Rattle.pg_listening.specs.Buffers.{BuffersSeen, FailsBy}

-- What holds the connection, where one is held; what was read on those that are lost, and not given yet; the channels, and those that an Ok of the
-- statement that is asked makes of them; and whether one is asked.
pub record ListeningOf (C : Type 0) : Type 0 where
  pub conn : Option C
  pub earlier : List Notification
  pub channels : List (List ℕ)
  pub behind : Option (List (List ℕ))
  pub is_asking : Bool

-- ---- what is held

abbrev pub stream_in : {C A : Type 0} → (C → ConnOf A) → (A → LinkSeen) → Option C → Option StreamSeen
stream_in conn seen None = None
stream_in conn seen (Some c) = Some (stream_by seen (conn c).stream)

abbrev pub buffers_by : {C A : Type 0} → (C → ConnOf A) → (A → LinkSeen) → ListeningOf C → BuffersSeen
buffers_by conn seen l = record { earlier = l.earlier; stream = stream_in conn seen l.conn }

-- what the connection that is held has learnt
abbrev pub learnt_in : {C A : Type 0} → (C → ConnOf A) → Option C → Learnt
learnt_in conn None = learnt_none
learnt_in conn (Some c) = (conn c).learnt

-- the connection that is held keeps what it reads of notifications
abbrev pub KeepsNews : {C A : Type 0} → (C → ConnOf A) → Option C → Type 0
KeepsNews conn None = Unit {0}
KeepsNews conn (Some c) = (conn c).stream.notifications.keeping ≡ true

-- a statement runs on it, where one is asked
abbrev pub IsAsked : {C A : Type 0} → (C → ConnOf A) → Bool → Option C → Type 0
IsAsked conn false held = Unit {0}
IsAsked conn true None = ⊥
IsAsked conn true (Some c) = IsCalling (kinds.Run hows.Execute) (conn c)

pub record IsListening {C A : Type 0} (conn : C → ConnOf A) (l : ListeningOf C) : Type 0 where
  pub keeping : KeepsNews conn l.conn
  pub asked : IsAsked conn l.is_asking l.conn

-- it is held by the same, whatever was done with it
abbrev pub StaysHeld : {C A : Type 0} → (C → ConnOf A) → (C → ConnOf A → C) → Option C → Option C → Type 0
StaysHeld conn with_conn None None = Unit {0}
StaysHeld conn with_conn (Some c) (Some d) = d ≡ with_conn c (conn d)
StaysHeld conn with_conn _ _ = ⊥

-- only what is kept of notifications on it has changed
abbrev pub OnlyKept : {C A : Type 0} → (C → ConnOf A) → Option C → Option C → Type 0
OnlyKept conn None None = Unit {0}
OnlyKept conn (Some c) (Some d) = conn d ≡ with_kept (conn d).stream.notifications (conn c)
OnlyKept conn _ _ = ⊥

-- this was done with it
abbrev pub OnHeld : {C A : Type 0} → (ConnSeen → ConnSeen → Type 0) → (C → ConnOf A) → (A → LinkSeen) → Option C → Option C → Type 0
OnHeld P conn seen (Some c) (Some d) = P (seen_by seen (conn c)) (seen_by seen (conn d))
OnHeld P conn seen _ _ = ⊥

-- a statement was begun on it
abbrev pub Starts : {C A : Type 0} → (C → ConnOf A) → (C → ConnOf A → C) → Request → Option C → Option C → Type 0
Starts conn with_conn request (Some c) held = held ≡ Some (with_conn c (started_call request (conn c)))
Starts conn with_conn request None held = ⊥

-- ---- a call that its user asks

-- one of this kind runs on what is held
abbrev pub CallsOn : {C A : Type 0} → (C → ConnOf A) → Kind → Option C → Type 0
CallsOn conn kind None = ⊥
CallsOn conn kind (Some c) = IsCalling kind (conn c)

-- what a poll answers is of the call's kind, which still runs where it waits or has given an item
abbrev pub FitsOn : {C A : Type 0} → (C → ConnOf A) → Kind → Option C → Poll Turn → Type 0
FitsOn conn kind None answer = ⊥
FitsOn conn kind (Some c) answer = PollFits kind (conn c) answer

-- where a poll fails by its link, the link's bytes have ended in it, or it has failed
abbrev pub FailsOn : Poll (Result Notification Error) → Option StreamSeen → Option StreamSeen → Type 0
FailsOn (Ready (Err (errors.Io cause))) (Some a) (Some b) = FailsBy a.link b.link
FailsOn answer before behind = Unit {0}

-- what is kept on a connection goes behind what is kept of earlier ones: all of it, or for want of memory a front of it
abbrev pub Saves : KeptSeen → KeptSeen → List Notification → List Notification → Result (Unit {0}) Error → Type 0
Saves a b before behind result = (behind ++ b.kept ≡ before ++ a.kept) × (b.keeping ≡ a.keeping) × OnOk result (b.kept ≡ []) × IfErr result (λ e. e ≡ errors.OutOfMemory)

-- ---- changes of the channels

-- the query that a change asks
abbrev pub query_of : ChannelChange → Request
query_of change = requests.Execute (plain_text (statement_of change))

-- Several channels are stored before their statement is asked, and every other change is made behind its Ok.
abbrev pub stored_behind : ChannelChange → List (List ℕ) → Option (List (List ℕ))
stored_behind (changes.ListenAll more) channels = None
stored_behind change channels = Some (changed change channels)

-- what an Ok makes of the channels, and any other answer nothing
abbrev pub channels_behind : Poll (Result (Unit {0}) Error) → Option (List (List ℕ)) → List (List ℕ) → List (List ℕ)
channels_behind (Ready (Ok u)) (Some next) channels = next
channels_behind answer behind channels = channels

-- and none are to be made then
abbrev pub behind_after : Poll (Result (Unit {0}) Error) → Option (List (List ℕ)) → Option (List (List ℕ))
behind_after (Ready (Ok u)) behind = None
behind_after answer behind = behind

-- the answer as the core's: how many rows were counted is let go
abbrev pub without_total : Poll (Result PgQueryResult Error) → Poll (Result (Unit {0}) Error)
without_total Pending = Pending
without_total (Ready (Err e)) = Ready (Err e)
without_total (Ready (Ok total)) = Ready (Ok tt)

-- ---- no pool

-- it doesn't say that a pool was closed
abbrev pub IsOpenPool : Error → Type 0
IsOpenPool (errors.PoolClosed place) = ⊥
IsOpenPool e = Unit {0}

abbrev pub NoneClosed : {X : Type 0} → Poll (Result X Error) → Type 0
NoneClosed (Ready (Err e)) = IsOpenPool e
NoneClosed answer = Unit {0}

abbrev pub TurnsOpen : Poll Turn → Type 0
TurnsOpen (Ready (turns.Err e)) = IsOpenPool e
TurnsOpen answer = Unit {0}

-- ---- statements

-- one poll of a statement, within so many calls of the link
abbrev pub PollsStatement : ℕ → ConnSeen → ConnSeen → Poll (Result (Unit {0}) Error) → Type 0
PollsStatement left a b answer = (told : Poll (Result PgQueryResult Error)) × (answer ≡ without_total told) × PollsWithin left a b (turn_of total_turn told)

-- it still runs where it waits
abbrev pub StaysAsked : {A X : Type 0} → ConnOf A → Poll X → Type 0
StaysAsked b Pending = IsCalling (kinds.Run hows.Execute) b
StaysAsked b (Ready answer) = Unit {0}

abbrev pub waits : {X : Type 0} → Poll X → Bool
waits Pending = true
waits (Ready answer) = false
