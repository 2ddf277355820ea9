-- How one poll of a call moves the connection on, whatever the call had done before.
use Rattle.std.specs.Prelude.{◌≡◌, ◌≢◌, Result, ℕ, ◌-◌, ◌<◌, ◌≤◌, ◌⊎◌, ◌==◌, ◌&&◌, Bool, true, false, count_by, List, [], ◌∷◌, ◌++◌, length, nat_eq, Ok, Err, Option, Some, None, ◌+◌, ◌*◌, if◌then◌else◌}
use Rattle.pg_call.specs.declared.kind.Change.{Change}
use Rattle.pg_call.specs.declared.kind.Change.TheVariants as changes
use Rattle.pg_call.specs.declared.kind.Kind.{Kind}
use Rattle.pg_call.specs.declared.kind.Kind.TheVariants as kinds
use Rattle.futures.specs.declared.task.Poll.{Poll}
use Rattle.futures.specs.declared.task.Poll.TheVariants.{Ready, Pending}
use Rattle.pg_wire.specs.declared.error.Error.{Error}
use Rattle.pg_wire.specs.declared.error.Error.TheVariants as errors
use Rattle.pg_wire.specs.declared.error.IoCause.TheVariants as io
use Rattle.pg_wire.specs.declared.error.ProtocolFault.TheVariants as protocol
use Rattle.pg_wire.specs.declared.error.ServerFault.{ServerFault}
use Rattle.pg_wire.specs.Frame.{Frame, bytes_of, backend_tags, IsWhole}
use Rattle.pg_wire.specs.Parts.{heard, is_asynchronous, is_ready}
use Rattle.pg_wire.specs.Frontend.{FrontendMessage, Query, Sync}
use Rattle.pg_stream.specs.declared.stream.Front.{Front}
use Rattle.pg_stream.specs.Links.{GrewBy}
use Rattle.pg_stream.specs.Streams.{IsFrontOf, framed, StreamOf, StreamSeen, Moves, AllMoved, NoneWaited, Passes, WriteWaited, IsSpent, PendingCause, HeardCause, fuel_of}
use Rattle.pg_call.specs.declared.ledger.Ledger.{Ledger}
use Rattle.pg_call.specs.declared.request.Request.{Request}
use Rattle.pg_call.specs.declared.request.Request.TheVariants as requests
use Rattle.pg_call.specs.declared.answer.CallAnswer.TheVariants as answers
use Rattle.pg_rows.specs.Rows.{RowSeen}
use Rattle.pg_call.specs.declared.answer.CallItem.{CallItem}
use Rattle.pg_call.specs.declared.answer.CallItem.TheVariants.{Row}
use Rattle.pg_call.specs.declared.answer.Turn.{Turn}
use Rattle.pg_call.specs.declared.answer.Turn.TheVariants as turns
use Rattle.pg_call.specs.declared.calling.Call.{Call}
use Rattle.pg_call.specs.declared.calling.Call.TheVariants as calls
use Rattle.pg_call.specs.declared.calling.Beat.{Beat}
use Rattle.pg_call.specs.declared.calling.Beat.TheVariants as beats
use Rattle.pg_call.specs.Requests.{Group, spelled, kind_of, is_flush, CanBeSaid, IsRefusal}
use Rattle.pg_call.specs.Drains.{is_error}
use Rattle.pg_call.specs.Hearing.{IsOpen, IsReplied, fails_of, looks_up, sent_answer}
use Rattle.pg_call.specs.declared.calling.Taken.{Taken}
use Rattle.pg_call.specs.declared.running.Running.{Running}
use Rattle.pg_call.specs.Calls.{CallIs, IsAwaiting, Leaves, CallEnds, EndsFine, IsFrontFault, ShowsRowOf, TakesMessage, RefusesMessage, StaysIn}
use Rattle.pg_conn.specs.Looking.{AsksFirst, AsksNext, Learns, LookFails, TakesFront, named_by}
use Rattle.pg_conn.specs.Connections.{ConnOf, ConnSeen, idle, left, standing, started_call, begun, begun_with, resolved, settled, cleaned, ended, ends_copy, unfed}
use Rattle.pg_conn.specs.Statements.{asked_by, begun_as}

-- Query and Sync end a group ("Simple Query", "Extended Query")
abbrev pub ends_request : FrontendMessage → Bool
ends_request (Query sql) = true
ends_request Sync = true
ends_request _ = false

-- ---- why a call ends by an error

-- an end of the link's bytes is an error only while a reply is owed
abbrev pub IsMissed : Ledger → Error → Type 0
IsMissed ledger (errors.Io io.End) = 0 < ledger.owed
IsMissed ledger _ = Unit {0}

-- the frame at the front, which is no asynchronous message, is refused
abbrev pub FrontFails : ConnSeen → Ledger → Request → List Group → List Frame → Error → Type 0
FrontFails b start r own hs e = (front : Frame) × (rest : List ℕ) × IsWhole backend_tags front × (is_asynchronous front ≡ false) × (b.stream.held ≡ bytes_of front ++ rest) × IsFrontFault start r own hs front e

-- the stream fails, memory is wanting, the front is refused, or a lookup fails by what was learnt
abbrev pub FailsBy : ConnSeen → ConnSeen → Ledger → Request → List Group → List Frame → Error → Type 0
FailsBy a b start r own hs e = (HeardCause a.stream b.stream e × IsMissed b.ledger e) ⊎ (FrontFails b start r own hs e ⊎ LookFails r hs b.learnt e)

-- the call's own end, or a failure that leaves it as a drop would
abbrev pub EndsBy : ConnSeen → ConnSeen → Ledger → Request → List FrontendMessage → List Frame → List CallItem → Error → Type 0
EndsBy a b start r said hs items e = CallEnds start r said hs items b.ledger (Err e)
    ⊎ ((l : Leaves start r said hs items b.ledger false) × (count_by is_error hs ≡ 0) × FailsBy a b start r l.own hs e)

-- ---- a beat

-- the call was not polled yet
abbrev pub IsAsked : Call → Type 0
IsAsked (calls.Asked request) = Unit {0}
IsAsked _ = ⊥

-- the bytes of cleanup that a call may queue: two frames of 64 bytes at most, once it has queued a group
abbrev pub cleanup_of : Call → ℕ
cleanup_of (calls.Own reply) = 128
cleanup_of _ = 0

-- what is kept for a cleanup: for the rollback of what a begin may have opened, and for the CopyFail of a copy from the client
abbrev pub wants_level : Change → Bool
wants_level changes.Opens = true
wants_level changes.Copies = true
wants_level _ = false

abbrev pub level_of : Change → ℕ → ℕ
level_of change groups = if nat_eq groups 0 then 0 else (if wants_level change then 64 else 0)

-- there is room for them beside so many bytes, which takes no memory
abbrev pub HasRoomBeside : {A : Type 0} → ℕ → ConnOf A → Type 0
HasRoomBeside n c = n + level_of c.change c.groups + cleanup_of c.call ≤ c.stream.spare

-- there is room for the cleanup of the call
abbrev pub HasRoom : {A : Type 0} → ConnOf A → Type 0
HasRoom c = HasRoomBeside 0 c

-- the bytes that are kept for the rollback of each transaction and savepoint that is open, and for the release of each lock that is held
abbrev pub kept_for : {A : Type 0} → ConnOf A → ℕ
kept_for c = 64 * c.rule.depth + 64 * c.held

-- and for each of these, of 64 bytes at most
abbrev pub HasAllRoom : {A : Type 0} → ConnOf A → Type 0
HasAllRoom c = HasRoomBeside (kept_for c) c

-- nothing is left to do but to send: for a flush behind the last reply that is owed, and for a close behind its last frame
abbrev pub only_sends : Ledger → Call → Bool
only_sends ledger (calls.Waiting waiting) = is_flush waiting.kind && ledger.owed == 0
only_sends ledger calls.Closing = true
only_sends ledger _ = false

-- a reply is owed, or something is to be sent
abbrev pub IsWaited : ConnSeen → Type 0
IsWaited c = (0 < c.ledger.owed) ⊎ (only_sends c.ledger c.call ≡ true)

-- what a beat says, by all that the call queued, heard and showed before
abbrev pub Tells : ConnSeen → ConnSeen → Ledger → Request → List FrontendMessage → List Frame → List CallItem → Beat → Type 0
Tells a b start r said hs items beats.More = CallIs start r said hs items b.ledger b.call
Tells a b start r said hs items beats.Waits = CallIs start r said hs items b.ledger b.call × IsWaited b
Tells a b start r said hs items (beats.Yields item) = CallIs start r said hs (items ++ item ∷ []) b.ledger b.call
Tells a b start r said hs items (beats.Opens opened) = CallIs start r said hs items b.ledger b.call × (kind_of r ≡ kinds.CopyIn) × IsOpen b.call
Tells a b start r said hs items (beats.Ends (Ok answer)) = (b.call ≡ calls.Idle) × CallEnds start r said hs items b.ledger (Ok answer) × (b.stream.unsent ≡ [])
Tells a b start r said hs items (beats.Ends (Err e)) = (b.call ≡ calls.Idle) × EndsBy a b start r said hs items e
Tells a b start r said hs items (beats.HandsOn next) = (b.call ≡ calls.Idle) × EndsFine start r said hs items b.ledger (beats.HandsOn next) × (b.stream.unsent ≡ [])

-- why a call waits that only sends: a write waited, or its calls are spent
abbrev pub SendCause : ConnSeen → ConnSeen → Type 0
SendCause a b = WriteWaited a.stream b.stream ⊎ IsSpent a.stream b.stream

abbrev pub BeatCause : ConnSeen → ConnSeen → Beat → Type 0
BeatCause a b beats.More = AllMoved a.stream b.stream
BeatCause a b beats.Waits = PendingCause a.stream b.stream × (only_sends b.ledger b.call ≡ true → SendCause a b)
BeatCause a b (beats.Ends (Ok answer)) = AllMoved a.stream b.stream
BeatCause a b (beats.HandsOn next) = AllMoved a.stream b.stream
BeatCause a b _ = NoneWaited a.stream b.stream

-- the bytes are the spelling of messages that the call queued now, and this is what the beat says of all
abbrev pub TellsOf : ConnSeen → ConnSeen → Ledger → Request → List FrontendMessage → List Frame → List CallItem → Beat → List ℕ → Type 0
TellsOf a b start r said hs items beat q = (more : List FrontendMessage) × (spelled more ≡ q) × GrewBy (count_by ends_request more) a.groups b.groups × Tells a b start r (said ++ more) hs items beat

-- ---- one group at a time

-- no group is queued: what is queued ends none, and each ReadyForQuery that is taken ends a reply that is owed
pub record AsksNone (owed : ℕ) (a b : StreamSeen) (q : List ℕ) (fs : List Frame) (left : ℕ) : Type 0 where
  pub said : List FrontendMessage
  pub bytes : q ≡ spelled said
  pub none : count_by ends_request said ≡ 0
  pub moves : Moves a b q fs
  pub counts : count_by is_ready fs + left ≡ owed

-- a group is queued, where no reply is owed any more
pub record AsksOnce (owed : ℕ) (a b : StreamSeen) (q group : List ℕ) (fs : List Frame) : Type 0 where
  pub ready : StreamSeen
  pub before : AsksNone owed a ready q fs 0
  pub queues : Moves ready b group []

-- these groups are queued one after another, each where all replies that were asked for before it were read to their ReadyForQuery
-- ("Extended Query")
abbrev pub AsksInTurn : List (List ℕ) → ℕ → StreamSeen → StreamSeen → List ℕ → List Frame → ℕ → Type 0
AsksInTurn [] owed a b q fs left = AsksNone owed a b q fs left
AsksInTurn (group ∷ groups) owed a b q fs left = (c : StreamSeen) × (p : List ℕ) × (later : List ℕ) × (gs : List Frame) × (hs : List Frame) × (asks : ℕ)
    × AsksOnce owed a c p group gs × AsksInTurn groups asks c b later hs left × (q ≡ p ++ (group ++ later)) × (fs ≡ gs ++ hs)

abbrev pub InTurn : ConnSeen → ConnSeen → List ℕ → List Frame → Type 0
InTurn a b q fs = (groups : List (List ℕ)) × AsksInTurn groups a.ledger.owed a.stream b.stream q fs b.ledger.owed

-- A beat queued these bytes and took these frames, of which these were heard. Whatever the call had queued, heard and shown before,
-- the beat tells of all of it.
pub record Turns (a b : ConnSeen) (beat : Beat) (q : List ℕ) (fs hs : List Frame) : Type 0 where
  pub moves : Moves a.stream b.stream q fs
  pub hears : heard fs ≡ hs
  pub cause : BeatCause a b beat
  pub broken : b.broken ≡ a.broken
  pub counted : GrewBy (length hs) a.heard b.heard
  pub started : (b.sent ≡ a.sent) × (b.read ≡ a.read) × (b.rule ≡ a.rule) × (standing b ≡ standing a)
  pub asked : IsAsked b.call → IsAsked a.call
  pub room : (n : ℕ) → n ≤ kept_for a → HasRoomBeside n a → HasRoomBeside n b
  pub learns : Learns hs a.learnt b.learnt
  pub tells : (start : Ledger) (r : Request) (said : List FrontendMessage) (hs' : List Frame) (items : List CallItem) → CallIs start r said hs' items a.ledger a.call
      → TellsOf a b start r said (hs' ++ hs) items beat q
  pub in_turn : (start : Ledger) (r : Request) (said : List FrontendMessage) (hs' : List Frame) (items : List CallItem) → CallIs start r said hs' items a.ledger a.call → InTurn a b q fs

abbrev pub TakesBeat : ConnSeen → ConnSeen → Beat → Type 0
TakesBeat a b beat = (q : List ℕ) × (fs : List Frame) × (hs : List Frame) × Turns a b beat q fs hs

-- the poll goes on behind it: in this exchange, or in the next one
abbrev pub GoesOn : Beat → Type 0
GoesOn beats.More = Unit {0}
GoesOn (beats.HandsOn next) = Unit {0}
GoesOn _ = ⊥

-- so many bytes are held, or may still be read in this poll, that they run out
abbrev pub Falls : ConnSeen → ConnSeen → Beat → Type 0
Falls a b beat = GoesOn beat → fuel_of b.stream < fuel_of a.stream

-- ---- what stands between the steps of a beat

-- frames can say what is asked
abbrev pub IsSayable : Call → Type 0
IsSayable (calls.Asked request) = CanBeSaid request
IsSayable _ = Unit {0}

-- what is asked stands as frames
pub record Prepares (a b : ConnSeen) : Type 0 where
  pub beat : TakesBeat a b beats.More
  pub asked : IsAsked b.call → ⊥
  pub sayable : IsSayable a.call

abbrev pub Refuses : Call → Error → Type 0
Refuses (calls.Asked request) e = IsRefusal request e
Refuses _ e = ⊥

abbrev pub only_flushes : Kind → Bool
only_flushes kinds.Flush = true
only_flushes _ = false

abbrev pub flushes : Call → Bool
flushes (calls.Asked request) = only_flushes (kind_of request)
flushes (calls.Waiting waiting) = only_flushes waiting.kind
flushes _ = false

-- a flush with nothing to do: no reply is owed, and all is sent
abbrev pub is_flushed : {A : Type 0} → ConnOf A → Bool
is_flushed c = flushes c.call && c.ledger.owed == 0 && nat_eq (length c.stream.unsent) 0

-- the call awaits a message, or that all is sent
abbrev pub IsAhead : Ledger → Call → Type 0
IsAhead ledger calls.Closing = Unit {0}
IsAhead ledger call = IsAwaiting ledger call

pub record Readies (a b : ConnSeen) : Type 0 where
  pub beat : TakesBeat a b beats.More
  pub ahead : IsAhead b.ledger b.call

-- a front was taken, and a CopyFail queued behind it or not
abbrev pub queued_copy_fail : {A : Type 0} → Bool → StreamOf A → StreamOf A
queued_copy_fail fails s = record s { unsent = s.unsent ++ spelled (fails_of fails); spare = s.spare - length (spelled (fails_of fails)) }

abbrev pub Accepts : {A : Type 0} → Front → Bool → ConnOf A → ConnOf A → Type 0
Accepts {A} front fails a b = (t : StreamOf A) × Passes front a.stream t × (b ≡ record a { stream = queued_copy_fail fails t; heard = b.heard }) × GrewBy 1 a.heard b.heard

-- the call takes the message at the front, or refuses it and owes what it did
abbrev pub HearsBy : ℕ → List ℕ → Running → Running → Result Taken Error → Type 0
HearsBy tag body a b (Ok taken) = TakesMessage tag body a b taken × (taken.fails_copy ≡ true → tag ≡ 71) × (taken.beat ≢ beats.Waits) × StaysIn a.call taken.fails_copy b.call
HearsBy tag body a b (Err e) = RefusesMessage tag body a e × (b.ledger ≡ a.ledger)

abbrev pub running_of : {A : Type 0} → ConnOf A → Running
running_of c = record { ledger = c.ledger; call = c.call }

abbrev pub HearsFront : {A : Type 0} → Front → ConnOf A → ConnOf A → Result Taken Error → Type 0
HearsFront front a b result = (body : List ℕ) × (rest : List ℕ) × IsFrontOf a.stream.held front (framed front.tag body) rest × HearsBy front.tag body (running_of a) (running_of b) result

-- a message of the own reply is taken that shows nothing at once, opens no copy, and from which nothing is learnt
abbrev pub TakesPlainly : ℕ → List ℕ → Running → Running → Type 0
TakesPlainly tag body a b = TakesMessage tag body a b (record { beat = beats.More; fails_copy = false }) × StaysIn a.call false b.call × IsReplied b.call × ((tag == 68 && looks_up b.call) ≡ false) × (tag ≢ 71)

-- and it stands at the front
abbrev pub PassesFront : {A : Type 0} → Front → ConnOf A → ConnOf A → Type 0
PassesFront front a b = (b ≡ record a { ledger = b.ledger; call = b.call }) × (body : List ℕ) × (rest : List ℕ) × IsFrontOf a.stream.held front (framed front.tag body) rest × TakesPlainly front.tag body (running_of a) (running_of b)

-- the same of a row that is shown at once
abbrev pub ShowsFront : {A : Type 0} → Front → RowSeen → ConnOf A → ConnOf A → Type 0
ShowsFront front row a b = (front.tag ≡ 68) × (b ≡ record a { ledger = b.ledger; call = b.call }) × (body : List ℕ) × (rest : List ℕ) × IsFrontOf a.stream.held front (framed front.tag body) rest × ShowsRowOf body row (running_of a) (running_of b)

-- and all that a poll does is to show it
abbrev pub ShowsAtOnce : ConnSeen → ConnSeen → RowSeen → Type 0
ShowsAtOnce a b row = TakesBeat a b (beats.Yields (Row row)) × IsReplied a.call × IsReplied b.call

-- the row of a lookup at the front is taken
abbrev pub LearnsFront : {A : Type 0} → Front → ConnOf A → ConnOf A → Result (Unit {0}) Error → Type 0
LearnsFront front a b result = (body rest : List ℕ) → IsFrontOf a.stream.held front (framed front.tag body) rest → TakesFront (framed front.tag body) a.learnt b.learnt result

-- and any other message is none
abbrev pub LearnsFrom : {A : Type 0} → Front → ConnOf A → ConnOf A → Result (Unit {0}) Error → Type 0
LearnsFrom front a b result = (b ≡ record a { learnt = b.learnt })
    × (((looks_up a.call ≡ true) × LearnsFront front a b result) ⊎ ((front.tag == 68 && looks_up a.call ≡ false) × (b.learnt ≡ a.learnt) × (result ≡ Ok tt)))

-- the message is taken; where what it tells of a lookup can't be, the call ends
abbrev pub TakesIn : {A : Type 0} → Front → Taken → ConnOf A → ConnOf A → Result (Unit {0}) Error → Beat → Type 0
TakesIn front taken a b (Ok u) beat = Accepts front taken.fails_copy a b × (beat ≡ taken.beat)
TakesIn {A} front taken a b (Err e) beat = (c : ConnOf A) × Accepts front taken.fails_copy a c × (b ≡ idle c) × (beat ≡ beats.Ends (Err e))

-- what was heard of the message at the front is told; where it may not come, the call ends
abbrev pub TakesHeard : {A : Type 0} → Front → Result Taken Error → ConnOf A → ConnOf A → Beat → Type 0
TakesHeard {A} front (Ok taken) a b beat = (m : ConnOf A) × (learnt : Result (Unit {0}) Error) × LearnsFrom front a m learnt × TakesIn front taken m b learnt beat
TakesHeard front (Err e) a b beat = (b ≡ idle a) × (beat ≡ beats.Ends (Err e))

-- ---- a poll

abbrev pub beat_of_turn : Turn → Beat
beat_of_turn (turns.Item item) = beats.Yields item
beat_of_turn (turns.Ok answer) = beats.Ends (Ok answer)
beat_of_turn (turns.Err e) = beats.Ends (Err e)
beat_of_turn (turns.Opened opened) = beats.Opens opened

-- a beat that ends a poll, and is its answer
abbrev pub EndsPoll : Beat → Type 0
EndsPoll beats.More = ⊥
EndsPoll (beats.HandsOn next) = ⊥
EndsPoll _ = Unit {0}

-- what a poll answers
abbrev pub beat_of : Poll Turn → Beat
beat_of Pending = beats.Waits
beat_of (Ready turn) = beat_of_turn turn

-- the fault that a beat breaks the connection by
abbrev pub broken_by : Beat → Option ServerFault
broken_by (beats.Ends (Err (errors.Protocol (protocol.Server fault)))) = Some fault
broken_by _ = None

-- what was asked is refused, and nothing else is done
abbrev pub Refused : ConnSeen → ConnSeen → Beat → Type 0
Refused a b (beats.Ends (Err e)) = Refuses a.call e × (b ≡ idle a)
Refused a b _ = ⊥

-- a flush with nothing to do ends, and does nothing
abbrev pub EndsFlush : ConnSeen → ConnSeen → Beat → Type 0
EndsFlush a b beat = is_flushed a ≡ true → (beat ≡ beats.Ends (Ok (sent_answer a.call))) × (b ≡ idle a)

-- what the end of an exchange makes of the connection: an Ok, and what hands on the next one, counts what it opened or closed, and any other end breaks it where the server is at
-- fault, and is cleaned up behind
abbrev pub behind : {A : Type 0} → Beat → ConnOf A → ConnOf A
behind (beats.Ends (Ok answer)) c = settled c
behind (beats.HandsOn next) c = settled c
behind (beats.Ends (Err e)) c = cleaned (unfed (ends_copy e) (record c { broken = broken_by (beats.Ends (Err e)) }))
behind _ c = c

-- one poll of a call that begins with this connection, which is whole
pub record Polled (begun b : ConnSeen) (beat : Beat) : Type 0 where
  -- the connection where the call stopped
  pub stopped : ConnSeen
  pub turns : TakesBeat begun stopped beat
  pub whole : stopped.broken ≡ None
  pub behind_is : b ≡ behind beat stopped
  -- frames can say what is asked, or this poll refuses it
  pub says : IsSayable begun.call ⊎ Refused begun stopped beat
  pub flush : EndsFlush begun stopped beat
  -- and behind it no call is merely asked
  pub asked : IsAsked b.call → ⊥

-- one exchange ended, and what it handed on is asked next, or before it what has to be looked up for it
abbrev pub HandsNext : ConnSeen → Request → ConnSeen → Type 0
HandsNext begun next c = (told : Request) × (between : ConnSeen) × Polled (resolved begun) between (beats.HandsOn told) × AsksNext told between next c

-- Exchanges ended in a poll one after another, behind each of which one of these was asked; the last of them begins on this connection.
abbrev pub HandsOver : ConnSeen → List Request → ConnSeen → Type 0
HandsOver begun [] last = last ≡ begun
HandsOver begun (next ∷ later) last = (c : ConnSeen) × HandsNext begun next c × HandsOver c later last

-- One poll of a call: of the exchange that runs, and of those that are asked behind it in this poll, each of which goes on with the calls of the link that
-- were left.
pub record PollsOn (begun b : ConnSeen) (answer : Poll Turn) : Type 0 where
  pub later : List Request
  pub last : ConnSeen
  pub hands : HandsOver begun later last
  pub polled : Polled (resolved last) b (beat_of answer)

-- this is refused before anything is looked up for it
abbrev pub RefusesNamed : Option Request → ConnSeen → ConnSeen → Poll Turn → Type 0
RefusesNamed (Some told) begun b (Ready (turns.Err e)) = IsRefusal told e × (b ≡ cleaned (idle (resolved begun)))
RefusesNamed named begun b answer = ⊥

-- what is asked first is asked, or before it what has to be looked up for it, or it is refused before that
abbrev pub BeginsBy : ConnSeen → ConnSeen → ConnSeen → Poll Turn → Type 0
BeginsBy begun first b answer = AsksFirst begun first ⊎ ((first ≡ begun) × RefusesNamed (named_by (resolved begun).call) begun b answer)

-- the same from where nothing was asked yet
abbrev pub PollsThrough : ConnSeen → ConnSeen → Poll Turn → Type 0
PollsThrough begun b answer = (first : ConnSeen) × BeginsBy begun first b answer × PollsOn first b answer

-- one poll of a call, which begins with this connection, or answers at once where the connection is broken
abbrev pub PollsBy : Option ServerFault → ConnSeen → ConnSeen → ConnSeen → Poll Turn → Type 0
PollsBy None begun a b answer = PollsThrough begun b answer
PollsBy (Some fault) begun a b answer = (b ≡ ended (idle a)) × (beat_of answer ≡ beats.Ends (Err (errors.Protocol (protocol.Server fault))))

-- a poll within so many calls of the link
abbrev pub PollsWithin : ℕ → ConnSeen → ConnSeen → Poll Turn → Type 0
PollsWithin left a b answer = PollsBy a.broken (begun_with left a) a b answer

abbrev pub PollsCall : ConnSeen → ConnSeen → Poll Turn → Type 0
PollsCall a b answer = PollsWithin 256 a b answer

-- a poll that goes on with the calls of the link that the last one left
abbrev pub PollsMore : ConnSeen → ConnSeen → Poll Turn → Type 0
PollsMore a b answer = PollsBy a.broken a a b answer

-- what the first exchange of a call asks
abbrev pub first_exchange : Request → ConnSeen → Request
first_exchange request a = asked_by (left a).rule (begun_as (left a).rule request)

-- the first poll of a request that refuses it, and does nothing else
abbrev pub RefusesAtOnce : Request → ConnSeen → ConnSeen → Poll Turn → Type 0
RefusesAtOnce request a b answer = (e : Error) × (answer ≡ Ready (turns.Err e)) × IsRefusal (first_exchange request a) e × (b ≡ cleaned (idle (resolved (begun (started_call request a)))))

-- the first poll of a flush that has nothing to do, which ends it
abbrev pub FlushesAtOnce : ConnSeen → ConnSeen → Poll Turn → Type 0
FlushesAtOnce a b answer = (answer ≡ Ready (turns.Ok answers.Unit)) × (b ≡ ended (idle (begun (started_call requests.Flush a))))
