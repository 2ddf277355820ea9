-- What a copy from the client makes of the connection that is held.
use Rattle.std.specs.Prelude.{◌≡◌, ℕ, List, Option, Some, None, Result, Ok, Err, [], false, true, Bool, not, ◌&&◌, ◌⊎◌}
use Rattle.futures.specs.declared.task.Poll.{Poll}
use Rattle.futures.specs.declared.task.Poll.TheVariants.{Ready, Pending}
use Rattle.pg_wire.specs.declared.error.Error.{Error}
use Rattle.pg_wire.specs.declared.error.Error.TheVariants as errors
use Rattle.pg_wire.specs.declared.error.ProtocolFault.TheVariants as protocol
use Rattle.pg_wire.specs.declared.message.copy_response.CopyResponseData.{CopyResponseData}
use Rattle.pg_stream.specs.Links.{LinkSeen}
use Rattle.pg_request.specs.Queries.{plain_text}
use Rattle.pg_call.specs.declared.feed.Feed.{Feed}
use Rattle.pg_call.specs.declared.kind.Kind.TheVariants as kinds
use Rattle.pg_call.specs.declared.request.Request.{Request}
use Rattle.pg_call.specs.declared.answer.CallAnswer.TheVariants as answers
use Rattle.pg_call.specs.declared.answer.Turn.{Turn}
use Rattle.pg_call.specs.declared.answer.Turn.TheVariants as turns
use Rattle.pg_conn.specs.Connections.{ConnOf, begun_by, copied, runs, seen_by}
use Rattle.pg_conn.specs.States.{IsCalling}
use Rattle.pg_conn.specs.Feeding.{IsFed}
use Rattle.pg_conn.specs.Turns.{PollsCall}
use Rattle.pg_guards.specs.Holders.{HeldBy}

-- a copy by this text, of which no data is given
abbrev pub unfed_copy : List ℕ → Feed
unfed_copy sql = record { query = plain_text sql; pieces = []; is_ended = false }

-- ---- a copy that begins

-- a connection is held, and its call is a copy's
abbrev pub IsOpening : {C A : Type 0} → (C → ConnOf A) → Option Request → Option C → Type 0
IsOpening conn request None = ⊥
IsOpening conn request (Some c) = IsCalling kinds.CopyIn (begun_by request (conn c))

-- and still is while it waits
abbrev pub StaysOpening : {C A X : Type 0} → (C → ConnOf A) → Option Request → Option C → Poll X → Type 0
StaysOpening conn request held Pending = IsOpening conn request held
StaysOpening conn request held (Ready x) = Unit {0}

-- once it is handed on, it is open
abbrev pub HandsOpen : {C A X : Type 0} → (C → ConnOf A) → (X → C) → Poll (Result X Error) → Type 0
HandsOpen conn holder (Ready (Ok x)) = IsFed (conn (holder x))
HandsOpen conn holder _ = Unit {0}

-- it is open where the server has said so, and fails with an error; whatever else ends its call is another reply ("COPY Operations")
abbrev pub BeginsAs : Turn → Result CopyResponseData Error → Type 0
BeginsAs (turns.Opened opened) (Ok response) = response ≡ opened
BeginsAs (turns.Opened opened) (Err e) = ⊥
BeginsAs (turns.Err e) (Err f) = f ≡ e
BeginsAs _ (Err f) = f ≡ errors.Protocol (protocol.Reply 67)
BeginsAs _ (Ok response) = ⊥

abbrev pub response_of : {X : Type 0} → (X → CopyResponseData) → Result X Error → Result CopyResponseData Error
response_of response (Ok x) = Ok (response x)
response_of response (Err e) = Err e

abbrev pub Begins : {X : Type 0} → (X → CopyResponseData) → Poll Turn → Poll (Result X Error) → Type 0
Begins response Pending Pending = Unit {0}
Begins response (Ready turn) (Ready answer) = BeginsAs turn (response_of response answer)
Begins response _ _ = ⊥

-- one poll of it on c: of its connection alone, whoever holds it then
abbrev pub OpensCopy : {C A X : Type 0} → (C → ConnOf A) → (C → ConnOf A → C) → (A → LinkSeen) → (X → C) → (X → CopyResponseData) → Option Request → C → Option C → Poll (Result X Error) → Type 0
OpensCopy {C} conn with_conn seen holder response request c kept answer = (d : C) × HeldBy holder kept answer d × (d ≡ with_conn c (conn d))
    × ((turn : Poll Turn) × PollsCall (seen_by seen (begun_by request (conn c))) (seen_by seen (conn d)) turn × Begins response turn answer)

-- ---- its end

-- its data is awaited, or all of it is sent
abbrev pub IsFinishing : {A : Type 0} → Bool → ConnOf A → Type 0
IsFinishing false c = IsFed c
IsFinishing true c = IsCalling kinds.CopyIn c

-- it is over where its call has ended
abbrev pub is_counted : {A : Type 0} → Bool → ConnOf A → Bool
is_counted ended c = ended && not (runs c.call)

-- while it waits its call goes on
abbrev pub StaysFinishing : {A X : Type 0} → Bool → ConnOf A → Poll X → Type 0
StaysFinishing ended c Pending = IsFinishing ended c
StaysFinishing ended c (Ready x) = Unit {0}

-- the count of rows that the server tells, or an error; one that opened once more were another reply
abbrev pub CountsAs : Turn → Result ℕ Error → Type 0
CountsAs (turns.Ok (answers.Total total)) (Ok rows) = rows ≡ total.rows
CountsAs (turns.Err e) (Err f) = f ≡ e
CountsAs (turns.Opened opened) (Err f) = f ≡ errors.Protocol (protocol.Reply 71)
CountsAs _ _ = ⊥

abbrev pub Counts : Poll Turn → Poll (Result ℕ Error) → Type 0
Counts Pending Pending = Unit {0}
Counts (Ready turn) (Ready answer) = CountsAs turn answer
Counts _ _ = ⊥

abbrev pub PollsCount : {A : Type 0} → (A → LinkSeen) → ConnOf A → ConnOf A → Poll (Result ℕ Error) → Type 0
PollsCount seen a b answer = (turn : Poll Turn) × PollsCall (seen_by seen a) (seen_by seen b) turn × Counts turn answer

abbrev pub ended_copy : {A : Type 0} → Bool → ConnOf A → ConnOf A
ended_copy true c = c
ended_copy false c = copied c

-- One poll of it: the end of the data is queued where that was not done, and then its call is polled. Or there was no memory for that, and the copy stays open.
abbrev pub FinishesCopy : {A : Type 0} → (A → LinkSeen) → Bool → Bool → ConnOf A → ConnOf A → Poll (Result ℕ Error) → Type 0
FinishesCopy seen was now a b answer =
    ((now ≡ true) × PollsCount seen (ended_copy was a) b answer)
    ⊎ ((was ≡ false) × (now ≡ false) × (b ≡ a) × (answer ≡ Ready (Err errors.OutOfMemory)))
