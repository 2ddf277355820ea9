-- Internal: what a play of one call says, in the words of the connection.
use Rattle.std.specs.Prelude.{◌≡◌, ◌≢◌, ℕ, ℤ, min, ◌+◌, ◌-◌, ◌*◌, ◌^◌, ◌<◌, ◌≤◌, ◌⊎◌, true, false, count_by, List, [], ◌∷◌, ◌++◌, length, map, Result, Option, Some, None, Ok, if◌then◌else◌}
use Rattle.pg_script.specs.declared.step.Call.TheVariants as script_calls
use Rattle.pg_wire.specs.declared.error.Error.{Error}
use Rattle.pg_wire.specs.declared.error.Error.TheVariants as errors
use Rattle.pg_wire.specs.declared.error.ProtocolFault.TheVariants as protocol
use Rattle.pg_wire.specs.declared.error.ServerFault.{ServerFault}
use Rattle.pg_wire.specs.Frame.{Frame}
use Rattle.pg_wire.specs.Parts.{heard}
use Rattle.pg_wire.specs.Backend.{BackendMessage, CopyInResponse}
use Rattle.pg_wire.specs.Frontend.{FrontendMessage, CopyFail, HasFrontendFrame}
use Rattle.pg_request.specs.declared.progress.CacheStep.{CacheStep}
use Rattle.pg_request.specs.declared.progress.CacheStep.TheVariants as cache
use Rattle.pg_stream.specs.Links.{RoseBy, Rose, GrewBy}
use Rattle.pg_stream.specs.Streams.{StreamSeen, Tallies, HasNone}
use Rattle.pg_call.specs.declared.request.Request.{Request}
use Rattle.pg_call.specs.declared.request.Request.TheVariants as requests
use Rattle.pg_call.specs.declared.answer.CallItem.{CallItem}
use Rattle.pg_call.specs.declared.answer.CallAnswer.{CallAnswer}
use Rattle.pg_call.specs.declared.answer.CallAnswer.TheVariants as answers
use Rattle.pg_call.specs.declared.kind.Kind.TheVariants as kinds
use Rattle.pg_call.specs.declared.calling.Call.TheVariants as calls
use Rattle.pg_call.specs.Requests.{Group, spelled, CanBeSaid, IsRefusal, change_of, keeping_of, kind_of}
use Rattle.pg_call.specs.Drains.{is_error}
use Rattle.pg_call.specs.Hearing.{IsOpen}
use Rattle.pg_call.specs.declared.ledger.Ledger.{Ledger}
use Rattle.pg_call.specs.declared.calling.Beat.{Beat}
use Rattle.pg_call.specs.declared.calling.Beat.TheVariants as beats
use Rattle.pg_call.specs.Calls.{CallIs, EndsFine, IsFine, Leaves, answer_by}
use Rattle.pg_conn.specs.Connections.{ConnSeen, idle, begins_copy, ends_copy, unfed, ended as ended_conn, ConnOf, settled, cleaned, handed, resolved, runs, rolled_back, standing, started_call, with_messages}
use Rattle.pg_call.specs.declared.kind.Change.{Change}
use Rattle.pg_call.specs.declared.kind.Change.TheVariants as changes
use Rattle.pg_conn.specs.Holding.{IsRelease, took_held}
use Rattle.pg_learning.specs.declared.learnt.Learnt.{Learnt}
use Rattle.pg_conn.specs.Looking.{Learns, LooksUp, named_in}
use Rattle.pg_conn.specs.Statements.{asked_by}
use Rattle.pg_conn.specs.Turns.{ends_request, first_exchange, EndsBy, is_flushed, HasAllRoom}
use Rattle.pg_report.specs.declared.outcome.Item.{Item}
use Rattle.pg_report.specs.declared.outcome.Answer.TheVariants.{Unit as AnswersUnit}
use Rattle.pg_report.specs.declared.outcome.End.{End}
use Rattle.pg_report.specs.declared.outcome.End.TheVariants as ends
use Rattle.pg_report.specs.declared.outcome.Outcome.{Outcome}
use Rattle.pg_script.specs.declared.step.Step.{Step}
use Rattle.pg_script.specs.declared.step.Parting.{Parting}
use Rattle.pg_script.specs.declared.step.Parting.TheVariants as partings
use Rattle.pg_startup.specs.Flows.{Flows}
use Rattle.pg_play.specs.declared.tally.Added.{Added}
use Rattle.pg_play.specs.declared.tally.Added.TheVariants as adds
use Rattle.pg_play.specs.declared.tally.Limits.{Limits}
use Rattle.pg_play.specs.declared.tally.Tally.{Tally}
use Rattle.pg_play.specs.declared.tally.Pause.{Pause}
use Rattle.pg_play.specs.declared.tally.Pause.TheVariants as pauses
use Rattle.pg_play.specs.Shown.{asked_of, has_query, item_of, items_with, has_rows, answer_of, begins_with, acts_at_once, parting_of}
use Rattle.pg_play.specs.Waits.{WaitsAt}

-- ---- when a call stops

-- after so many polls that waited, or with so many items; and how a copy from the client that is open is given up
pub record Bounds : Type 0 where
  pub polls : ℕ
  pub most : ℕ
  pub parting : Parting

-- it isn't
abbrev pub bounds : Limits → Bounds
bounds limits = record { polls = limits.polls; most = limits.most; parting = partings.None }

-- ---- the tally of a call

-- one more item
abbrev pub Adds : Limits → Item → Tally → Tally → Added → Type 0
Adds limits item old new adds.More = (new.waits ≡ old.waits) × (new.items.items ≡ old.items.items ++ item ∷ []) × (length new.items.items ≢ limits.most)
Adds limits item old new adds.Last = (new.waits ≡ old.waits) × (new.items.items ≡ old.items.items ++ item ∷ []) × (length new.items.items ≡ limits.most)
Adds limits item old new adds.Starved = (new.waits ≡ old.waits) × (new.items.items ≡ old.items.items)

-- what of that stops the polls
abbrev pub pause_of : Added → Option Pause
pause_of adds.More = None
pause_of adds.Last = Some (pauses.Ended ends.Dropped)
pause_of adds.Starved = Some (pauses.Ended (ends.Err errors.OutOfMemory))

-- the answer, and the items that come with it
abbrev pub Finishes : CallAnswer → Tally → Tally → End → Type 0
Finishes answer old new (ends.Ok told) = (new.waits ≡ old.waits) × (new.items.items ≡ items_with old.items.items answer) × (told ≡ answer_of answer)
Finishes answer old new (ends.Err e) = (new.waits ≡ old.waits) × (new.items.items ≡ []) × (e ≡ errors.OutOfMemory) × (has_rows answer ≡ true)
Finishes answer old new ends.Dropped = ⊥

-- ---- an exchange of a call that is played: from the connection a on which it began, and from the first stream, as the call began

-- so many polls had to wait: for the link to take, for it to give, or after 256 moves
pub record Waited (n : ℕ) (a b : StreamSeen) : Type 0 where
  pub write_waits : ℕ
  pub read_waits : ℕ
  pub spent : ℕ
  pub all : write_waits + read_waits + spent ≡ n
  pub writes : GrewBy write_waits a.link.write_waits b.link.write_waits
  pub reads : GrewBy read_waits a.link.read_waits b.link.read_waits
  pub moved : RoseBy (256 * spent) a.link.moved b.link.moved
  pub waits : GrewBy (write_waits + read_waits) a.waits b.waits
  pub moves : RoseBy (256 * spent) a.moves b.moves

-- what it queued and took, and what is counted of it
pub record Went (a b : ConnSeen) (said : List FrontendMessage) (fs : List Frame) : Type 0 where
  pub flows : Flows a.stream b.stream (spelled said) fs
  pub tallies : Tallies a.stream b.stream
  pub waits : WaitsAt a.stream b.stream fs
  -- the rows of a lookup were taken
  pub learns : Learns (heard fs) a.learnt b.learnt
  pub groups : GrewBy (count_by ends_request said) a.groups b.groups
  pub heard : GrewBy (length (heard fs)) a.heard b.heard
  pub started : (b.sent ≡ a.sent) × (b.read ≡ a.read) × (b.rule ≡ a.rule) × (standing b ≡ standing a)

-- what the connection counts of a call so far, all of its exchanges together
pub record Counted : Type 0 where
  pub groups : ℕ
  pub heard : ℕ
  pub waits : ℕ
  pub moves : ℕ
  -- what they made of the statements that are kept
  pub cache : CacheStep

-- what an exchange is to make of the transactions, and of a copy from the client: whether it was fed to its end
abbrev pub change_for : Request → Change
change_for (requests.CopyIn feed) = if feed.is_ended then changes.Fed else changes.Copies
change_for request = change_of (kind_of request)

-- an exchange has begun on a connection on which none ran, and is counted behind these
abbrev pub asking : Request → Counted → ConnSeen → ConnSeen
asking request old c = record c {
  stream = record c.stream { waits = old.waits; moves = old.moves };
  call = calls.Asked request;
  change = change_for request;
  keeping = keeping_of request;
  cache = old.cache;
  groups = 0;
  earlier = old.groups;
  heard = old.heard;
}

abbrev pub none_counted : Counted
none_counted = record { groups = 0; heard = 0; waits = 0; moves = 0; cache = cache.Same }

-- a call has begun so with its first exchange
abbrev pub begun_call : Request → ConnSeen → ConnSeen
begun_call request c = asking request none_counted c

-- all groups that are counted of a call, those of its exchanges that are over and those of the one that runs
abbrev pub all_groups : {A : Type 0} → ConnOf A → ℕ
all_groups c = min (c.earlier + c.groups) (2 ^ 64 - 1)

-- what is not asked by its first poll: what no frame can say, and what has types that are known by their names alone
abbrev pub IsHeldBack : Request → Type 0
IsHeldBack r = (CanBeSaid r → ⊥) ⊎ ((told : Request) × (named_in r ≡ Some told))

-- it was not polled yet
abbrev pub IsFresh : ConnSeen → ConnSeen → Request → List Frame → Type 0
IsFresh a b r fs = (b ≡ a) × (a.call ≡ calls.Asked r) × (fs ≡ [])

-- a copy from the client had one poll more, which told that it was open
abbrev pub again : Request → ℕ
again (requests.CopyIn feed) = if feed.is_ended then 1 else 0
again _ = 0

-- it runs still, and has shown these items
pub record InPlay (first : StreamSeen) (a b : ConnSeen) (r : Request) (waits : ℕ) (items : List CallItem) (said : List FrontendMessage) (fs : List Frame) : Type 0 where
  pub went : Went a b said fs
  pub broken : b.broken ≡ None
  pub call : CallIs a.ledger r said (heard fs) items b.ledger b.call
  pub asked : a.change ≡ change_for r
  pub room : HasAllRoom a → HasAllRoom b
  -- the polls are those of the whole call: each waited or showed an item
  pub waited : Waited waits first b.stream
  pub calls : b.stream.link.calls ≤ first.link.calls + 256 * (waits + length items + again r)
  -- what the first poll doesn't ask was not polled yet
  pub unsaid : IsHeldBack r → IsFresh a b r fs
  pub unflushed : is_flushed a ≡ true → IsFresh a b r fs

-- it is a copy from the client, whose data is awaited, as its last poll has told
pub record InCopy (first : StreamSeen) (a b : ConnSeen) (r : Request) (waits : ℕ) (items : List CallItem) (said : List FrontendMessage) (fs : List Frame) : Type 0 where
  pub went : Went a b said fs
  pub broken : b.broken ≡ None
  pub call : CallIs a.ledger r said (heard fs) items b.ledger b.call
  pub kind : kind_of r ≡ kinds.CopyIn
  pub is_open : IsOpen b.call
  pub asked : a.change ≡ change_for r
  pub room : HasAllRoom a → HasAllRoom b
  pub waited : Waited waits first b.stream
  pub calls : b.stream.link.calls ≤ first.link.calls + 256 * (waits + length items + 1)

abbrev pub IsCopying : ℕ → StreamSeen → ConnSeen → ConnSeen → Request → ℕ → List Item → Type 0
IsCopying most first a b r waits shown = (a.broken ≡ None) × ((items : List CallItem) × (said : List FrontendMessage) × (fs : List Frame) × (shown ≡ map item_of items) × (length shown < most) × InCopy first a b r waits items said fs)

-- on a connection that is whole, or is broken, with fewer items than it may show
abbrev pub IsPlayingOn : Option ServerFault → ℕ → StreamSeen → ConnSeen → ConnSeen → Request → ℕ → List Item → Type 0
IsPlayingOn None most first a b r waits shown = (items : List CallItem) × (said : List FrontendMessage) × (fs : List Frame) × (shown ≡ map item_of items) × (length shown < most) × InPlay first a (resolved b) r waits items said fs
IsPlayingOn (Some fault) most first a b r waits shown = (b.broken ≡ Some fault) × (cleaned (idle a) ≡ ended_conn (idle b)) × (shown ≡ []) × (a.groups ≡ 0) × (first ≡ a.stream) × (runs b.call ≡ true)

abbrev pub IsPlaying : ℕ → StreamSeen → ConnSeen → ConnSeen → Request → ℕ → List Item → Type 0
IsPlaying most first a b r waits shown = IsPlayingOn a.broken most first a b r waits shown

-- the last poll waited: for the link to take; after 256 moves; or for it to give, with all sent, no whole frame held, and a reply owed
abbrev pub EndsStarved : StreamSeen → ConnSeen → ConnSeen → Type 0
EndsStarved first a b =
    Rose a.stream.link.write_waits b.stream.link.write_waits
    ⊎ (RoseBy 256 first.moves b.stream.moves
    ⊎ ((b.stream.unsent ≡ []) × HasNone b.stream.held × (0 < b.ledger.owed)))

-- the response to its group begins a copy from the client, and no more of it was heard
abbrev pub IsOpened : List Group → List BackendMessage → Type 0
IsOpened own reply = (length own ≡ 1) × (format : ℤ) × (columns : List ℤ) × (reply ≡ CopyInResponse format columns ∷ [])

-- why a call was dropped: so many polls waited, or so many items were shown; or a copy that was open was given up, and all was sent where it was left as it stood
abbrev pub IsDroppedAs : Parting → Bounds → StreamSeen → ConnSeen → ConnSeen → List Group → List BackendMessage → List Item → Type 0
IsDroppedAs partings.None limits first a b own reply shown = (Waited limits.polls first b.stream × EndsStarved first a b) ⊎ (length shown ≡ limits.most)
IsDroppedAs partings.Left limits first a b own reply shown = IsOpened own reply × (b.stream.unsent ≡ [])
IsDroppedAs partings.Unsaid limits first a b own reply shown = IsOpened own reply
IsDroppedAs (partings.Failed message) limits first a b own reply shown = IsOpened own reply × HasFrontendFrame (CopyFail message)

abbrev pub IsDropped : Bounds → StreamSeen → ConnSeen → ConnSeen → List Group → List BackendMessage → List Item → Type 0
IsDropped limits first a b own reply shown = IsDroppedAs limits.parting limits first a b own reply shown

-- the fault that broke the connection is kept
abbrev pub broken_after : Option ServerFault → End → Option ServerFault
broken_after None (ends.Err (errors.Protocol (protocol.Server fault))) = Some fault
broken_after old _ = old

-- an end by an error: the call's own, or want of memory for the items that come with the answer
abbrev pub EndsByError : ℕ → ConnSeen → ConnSeen → Request → List FrontendMessage → List Frame → List Item → Error → Type 0
EndsByError most a b r said hs shown e =
    ((items : List CallItem) × (shown ≡ map item_of items) × (length shown < most) × EndsBy a b a.ledger r said hs items e)
    ⊎ ((items : List CallItem) × (shown ≡ []) × (e ≡ errors.OutOfMemory) × IsFine a.ledger r said hs items b.ledger)

-- what an exchange answers at its end; one that hands on the next one, nothing
abbrev pub AnswersBy : Beat → Result CallAnswer Error → Type 0
AnswersBy (beats.Ends told) answer = told ≡ answer
AnswersBy (beats.HandsOn next) answer = Ok answers.Unit ≡ answer
AnswersBy _ answer = ⊥

-- all was asked, read and shown, and this is the answer to its reply
abbrev pub IsAnswered : Ledger → Request → List FrontendMessage → List Frame → List CallItem → Ledger → CallAnswer → Type 0
IsAnswered start r said hs items ledger answer = (f : IsFine start r said hs items ledger) × AnswersBy (answer_by r f.reply f.status) (Ok answer)

-- what the end of an exchange says of all that it queued, heard and showed
abbrev pub EndsOn : Option ServerFault → Bounds → StreamSeen → ConnSeen → ConnSeen → Request → List FrontendMessage → List Frame → List Item → End → Type 0
EndsOn None limits first a b r said hs shown (ends.Ok told) =
    (items : List CallItem) × (answer : CallAnswer) × (shown ≡ items_with (map item_of items) answer) × (length items < limits.most) × (told ≡ answer_of answer) × IsAnswered a.ledger r said hs items b.ledger answer × (b.stream.unsent ≡ [])
EndsOn None limits first a b r said hs shown (ends.Err e) = EndsByError limits.most a b r said hs shown e
EndsOn None limits first a b r said hs shown ends.Dropped =
    (items : List CallItem) × (shown ≡ map item_of items) × (l : Leaves a.ledger r said hs items b.ledger false) × (count_by is_error hs ≡ 0) × IsDropped limits first a b l.own l.reply shown × (length shown ≤ limits.most)
EndsOn (Some fault) limits first a b r said hs shown end =
    (end ≡ ends.Err (errors.Protocol (protocol.Server fault))) × (said ≡ []) × (hs ≡ []) × (shown ≡ []) × (idle b ≡ idle a)

-- a call waits in fewer polls than it may have, or is dropped
abbrev pub WaitsFew : ℕ → ℕ → End → Type 0
WaitsFew polls waits end = (end ≢ ends.Dropped → waits < polls) × (waits ≤ polls)

-- so many polls had to wait, which are few
abbrev pub HasWaitedFew : ℕ → StreamSeen → StreamSeen → End → Type 0
HasWaitedFew polls a b end = (waits : ℕ) × Waited waits a b × WaitsFew polls waits end

-- the first poll ended it, and did nothing else; how many link calls it may make is no matter
abbrev pub StaysIdle : ConnSeen → ConnSeen → List Frame → List Item → Type 0
StaysIdle a b fs shown = (shown ≡ []) × (fs ≡ []) × (record b { broken = None; stream = record b.stream { left = a.stream.left } } ≡ idle a)

-- what the first poll ends: what it doesn't ask, and a flush with nothing to do
pub record EndsAtOnce (a b : ConnSeen) (r : Request) (shown : List Item) (end : End) (fs : List Frame) : Type 0 where
  pub refused : IsHeldBack r → (e : Error) × IsRefusal r e × (end ≡ ends.Err e) × StaysIdle a b fs shown
  pub flushed : is_flushed a ≡ true → (end ≡ ends.Ok AnswersUnit) × StaysIdle a b fs shown

-- it was played to this end
pub record Ended (limits : Bounds) (first : StreamSeen) (a b : ConnSeen) (r : Request) (shown : List Item) (end : End) (said : List FrontendMessage) (fs : List Frame) : Type 0 where
  pub went : Went a b said fs
  pub broken : b.broken ≡ broken_after a.broken end
  pub kept : (fault : ServerFault) → a.broken ≡ Some fault → fs ≡ []
  pub few : HasWaitedFew limits.polls first b.stream end
  pub room : HasAllRoom a → HasAllRoom b
  pub calls : b.stream.link.calls ≤ first.link.calls + 256 * (limits.polls + limits.most)
  pub at_once : a.broken ≡ None → EndsAtOnce a b r shown end fs
  pub ends : EndsOn a.broken limits first a b r said (heard fs) shown end

-- no further exchange comes behind one that asks this
abbrev pub IsLast : Request → Type 0
IsLast r = kind_of r ≡ kinds.Describe → ⊥

-- an exchange that ends so ends its call: one that hands on ends Ok
abbrev pub EndsCall : Request → End → Type 0
EndsCall r (ends.Ok told) = IsLast r
EndsCall r _ = Unit {0}

-- it was played to this end, which is the call's
abbrev pub HasEnded : Bounds → StreamSeen → ConnSeen → ConnSeen → Request → List Item → End → Type 0
HasEnded limits first a b r shown end = (said : List FrontendMessage) × (fs : List Frame) × Ended limits first a b r shown end said fs × EndsCall r end

-- a copy that is open is failed by this message
abbrev pub failed_by : {A : Type 0} → List ℕ → ConnOf A → ConnOf A
failed_by message c = record (with_messages (CopyFail message ∷ []) c) { ledger = record c.ledger { is_copy_failed = true }; change = changes.Stays }

-- or as any other, where it has no message of its own
abbrev pub parted : {A : Type 0} → Parting → ConnOf A → ConnOf A
parted (partings.Failed message) c = if begins_copy c.change then failed_by message c else unfed false c
parted parting c = unfed false c

-- what the end of a call makes of a copy from the client that it was: one that is open is failed, and of one that was fed to its end the reply stays owed
abbrev pub copy_behind : {A : Type 0} → Parting → End → ConnOf A → ConnOf A
copy_behind parting (ends.Ok answer) c = c
copy_behind parting (ends.Err e) c = unfed (ends_copy e) c
copy_behind parting ends.Dropped c = parted parting c

-- what is made of a connection on which a call has come to this end
abbrev pub behind_end : {A : Type 0} → End → ConnOf A → ConnOf A
behind_end (ends.Ok answer) c = settled c
behind_end _ c = cleaned c

-- It stopped at this connection, of which this was made: its call has ended, or it runs still and is to be given up.
abbrev pub StopsBy : Bounds → StreamSeen → ConnSeen → ConnSeen → Request → List Item → End → Type 0
StopsBy limits first a b r shown end = (stopped : ConnSeen) × HasEnded limits first a stopped r shown end
    × (((stopped.call ≡ calls.Idle) × (b ≡ behind_end end (copy_behind limits.parting end stopped))) ⊎ ((runs stopped.call ≡ true) × (b ≡ stopped) × ((c : ConnSeen) → copy_behind limits.parting end c ≡ copy_behind partings.None end c) × (behind_end end (copy_behind partings.None end stopped) ≡ cleaned (unfed false stopped))))

-- ---- a call that is played: exchanges one after another, each handed on by the one before it

-- An exchange ended Ok, and handed on the next one. It showed nothing, and m is where it stopped, in the midst of a poll.
pub record HandedOn (polls : ℕ) (first : StreamSeen) (a m : ConnSeen) (r next : Request) : Type 0 where
  pub said : List FrontendMessage
  pub fs : List Frame
  pub went : Went a m said fs
  pub whole : (a.broken ≡ None) × (m.broken ≡ None)
  pub asked : a.change ≡ change_for r
  pub room : HasAllRoom a → HasAllRoom m
  pub over : m.call ≡ calls.Idle
  pub ends : EndsFine a.ledger r said (heard fs) [] m.ledger (beats.HandsOn next) × (m.stream.unsent ≡ [])
  -- its first poll did not end it
  pub can : CanBeSaid r
  pub unsaid : IsHeldBack r → ⊥
  pub flush : is_flushed a ≡ false
  -- the polls that waited before this one
  pub waits : ℕ
  pub waited : Waited waits first m.stream
  pub few : waits < polls
  pub calls : m.stream.link.calls ≤ first.link.calls + 256 * polls

-- What it handed on is asked next, or before it what has to be looked up for it. So much is learnt then.
pub record HandsTo (polls : ℕ) (first : StreamSeen) (a m : ConnSeen) (r next : Request) : Type 0 where
  pub told : Request
  pub handed : HandedOn polls first a m r told
  pub learnt : Learnt
  pub looks : LooksUp told m.learnt next learnt

abbrev pub knowing : {A : Type 0} → Learnt → ConnOf A → ConnOf A
knowing learnt c = record c { learnt = learnt }

-- the next exchange begins on this connection
abbrev pub handed_from : ConnSeen → Request → ConnSeen
handed_from m next = resolved (handed next (settled m))

-- by the statements that are kept, it asks this
abbrev pub asked_from : ConnSeen → Request → Request
asked_from m next = asked_by (settled m).rule next

-- This holds of the exchange that came last, from the connection on which it began: of the one that begins here, or of the last of these, each
-- handed on by the one before it.
abbrev pub OfLastIn : List Request → ℕ → StreamSeen → (ConnSeen → Request → Type 0) → ConnSeen → Request → Type 0
OfLastIn [] polls first P a r = P a r
OfLastIn (next ∷ later) polls first P a r = (m : ConnSeen) × (h : HandsTo polls first a m r next) × OfLastIn later polls first P (handed_from (knowing h.learnt m) next) (asked_from m next)

abbrev pub OfLastOn : ℕ → StreamSeen → (ConnSeen → Request → Type 0) → ConnSeen → Request → Type 0
OfLastOn polls first P a r = (later : List Request) × OfLastIn later polls first P a r

-- Where a statement, or what it is run with, has types that are known by their names alone, what has to be looked up for it is asked first, or it is asked with
-- their OIDs; the exchange begins on this connection, with what is learnt then.
abbrev pub LooksFirst : Option Request → ConnSeen → ConnSeen → Request → Type 0
LooksFirst None a from asked = ⊥
LooksFirst (Some told) a from asked = (a.broken ≡ None) × CanBeSaid told
    × ((learnt : Learnt) × (next : Request) × LooksUp told a.learnt next learnt × (asked ≡ asked_by a.rule next) × (from ≡ resolved (handed next (knowing learnt a))))

-- the first exchange is the one that begins here, or comes before that
abbrev pub StartsAt : ConnSeen → Request → ConnSeen → Request → Type 0
StartsAt a r from asked = ((from ≡ a) × (asked ≡ r)) ⊎ LooksFirst (named_in r) a from asked

abbrev pub OfLast : ℕ → StreamSeen → (ConnSeen → Request → Type 0) → ConnSeen → Request → Type 0
OfLast polls first P a r = (from : ConnSeen) × (asked : Request) × StartsAt a r from asked × OfLastOn polls first P from asked

-- a call runs, polls being counted from its begin
abbrev pub IsCallPlaying : Limits → ConnSeen → ConnSeen → Request → ℕ → List Item → Type 0
IsCallPlaying limits a b r waits shown = OfLast limits.polls a.stream (λ at asked. IsPlaying limits.most a.stream at b asked waits shown) a r

-- what stops the polls: the call's end, or a copy from the client that is open
abbrev pub Pauses : Limits → ConnSeen → ConnSeen → Request → ℕ → List Item → Pause → Type 0
Pauses limits a b r waits shown (pauses.Ended end) = OfLast limits.polls a.stream (λ at asked. StopsBy (bounds limits) a.stream at b asked shown end) a r
Pauses limits a b r waits shown pauses.Opened = OfLast limits.polls a.stream (λ at asked. IsCopying limits.most a.stream at b asked waits shown) a r

-- whatever came before, a poll goes on by so much
abbrev pub PollGives : Limits → ConnSeen → ConnSeen → Request → ℕ → List Item → Option Pause → Type 0
PollGives limits a b r waits shown None = IsCallPlaying limits a b r waits shown
PollGives limits a b r waits shown (Some pause) = Pauses limits a b r waits shown pause

-- ---- the whole step

-- a step that isn't polled at all
abbrev pub IsUnpolled : Step → Type 0
IsUnpolled step = (step.polls ≡ 0) ⊎ (step.most ≡ 0)

abbrev pub limits_of : Step → Bounds
limits_of step = record { polls = step.polls; most = step.most; parting = parting_of step.call }

-- nothing was done
abbrev pub untouched : End → Outcome
untouched end = record { items = []; end = end; groups = 0; heard = 0; cache = cache.Same; waits = 0; moved = 0 }

-- nothing was done for want of memory, where anything was to be done
abbrev pub IsUnmade : Step → Outcome → Type 0
IsUnmade step out = (IsUnpolled step × (out ≡ untouched ends.Dropped)) ⊎ ((IsUnpolled step → ⊥) × (step.polls < 2 ^ 32) × (out ≡ untouched (ends.Err errors.OutOfMemory)))

-- the numbers of an outcome are the connection's
abbrev pub outcome_of : ConnSeen → List Item → End → Outcome
outcome_of b shown end = record { items = shown; end = end; groups = all_groups b; heard = b.heard; cache = b.cache; waits = b.stream.waits; moved = b.stream.moves }

-- a copy from the client is told as it was fed in the end
abbrev pub change_fed : Request → Change → Change
change_fed (requests.CopyIn feed) change = if feed.is_ended then changes.Fed else change
change_fed request change = change

abbrev pub as_fed : Request → ConnSeen → ConnSeen
as_fed request c = record c { change = change_fed request c.change }

-- the connection as the first exchange of a call begins
abbrev pub first_conn : Request → ConnSeen → ConnSeen
first_conn request a = as_fed request (resolved (started_call request a))

-- an exchange that ended the call, on the connection as it began
abbrev pub PlaysOne : Bounds → StreamSeen → ConnSeen → ConnSeen → Request → Outcome → Type 0
PlaysOne limits first a b r out = (stopped : ConnSeen) × HasEnded limits first a stopped r out.items out.end × (stopped.call ≡ calls.Idle) × (b ≡ behind_end out.end (copy_behind limits.parting out.end stopped)) × (out ≡ outcome_of b out.items out.end)

-- a call that was polled, on the connection as it began: what ended it is the exchange that came last
abbrev pub PlaysCall : Bounds → ConnSeen → ConnSeen → Request → Outcome → Type 0
PlaysCall limits a b r out = OfLast limits.polls a.stream (λ at asked. PlaysOne limits a.stream at b asked out) a r

-- the outcome of what acts at once
abbrev pub rolled_outcome : ConnSeen → Outcome
rolled_outcome b = record { items = []; end = ends.Ok AnswersUnit; groups = all_groups b; heard = b.heard; cache = b.cache; waits = b.stream.waits; moved = b.stream.moves }

-- a step whose call is polled: not polled; refused, since it would open a savepoint by its own text; without memory for its query; or played
abbrev pub PlaysPolled : ConnSeen → ConnSeen → Step → Outcome → Type 0
PlaysPolled a b step out =
    (IsUnpolled step × (b ≡ a) × (out ≡ untouched ends.Dropped))
    ⊎ ((IsUnpolled step → ⊥) × (step.polls < 2 ^ 32)
    × ((((begins_with step.call ≡ true) × (0 < a.rule.depth)) × (b ≡ a) × (out ≡ untouched (ends.Err errors.InvalidSavePointStatement)))
    ⊎ (((begins_with step.call ≡ true) × (0 < a.rule.depth) → ⊥)
    × (((b ≡ a) × (out ≡ untouched (ends.Err errors.OutOfMemory)) × (has_query step.call ≡ true))
    ⊎ PlaysCall (limits_of step) (first_conn (asked_of a.rule.depth step.call) a) b (first_exchange (asked_of a.rule.depth step.call) a) out))))

-- a lock is released without waiting, out of the room that is kept for that
pub record Releases (a b : ConnSeen) (step : Step) (out : Outcome) : Type 0 where
  pub text : List ℕ
  pub asks : step.call ≡ script_calls.Release text
  pub lawful : IsRelease text
  pub held : 0 < a.held
  pub behind : b ≡ took_held (Some text) a
  pub tells : out ≡ rolled_outcome b

-- what acts at once: a rollback without waiting, or such a release
abbrev pub PlaysAct : ConnSeen → ConnSeen → Step → Outcome → Type 0
PlaysAct a b step out = ((step.call ≡ script_calls.StartRollback) × (b ≡ rolled_back a) × (out ≡ rolled_outcome b)) ⊎ Releases a b step out

-- a step: one that acts at once, or one whose call is polled
abbrev pub PlaysStep : ConnSeen → ConnSeen → Step → Outcome → Type 0
PlaysStep a b step out = PlaysAct a b step out ⊎ ((acts_at_once step.call ≡ false) × PlaysPolled a b step out)
