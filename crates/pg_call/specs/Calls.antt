-- How far a call has come, by all that it queued, heard and showed since it began.
use Rattle.std.specs.Prelude.{◌≡◌, ◌≢◌, ℕ, ◌+◌, ◌<◌, ◌⊎◌, Bool, true, false, not, ◌&&◌, ◌==◌, List, [], ◌∷◌, ◌++◌, length, map, count_by, Result, Ok, Err, OnOk, Option, Some, None}
use Rattle.std.specs.List.{AllByRecursion, list_any}
use Rattle.pg_wire.specs.declared.error.Error.{Error}
use Rattle.pg_wire.specs.declared.error.Error.TheVariants as errors
use Rattle.pg_wire.specs.declared.error.ProtocolFault.TheVariants as protocol
use Rattle.pg_wire.specs.declared.error.ServerFault.TheVariants as faults
use Rattle.pg_wire.specs.declared.status.TransactionStatus.{TransactionStatus}
use Rattle.pg_wire.specs.Frame.{Frame}
use Rattle.pg_wire.specs.Parts.{is_ready}
use Rattle.pg_wire.specs.Frontend.{FrontendMessage}
use Rattle.pg_wire.specs.Backend.{BackendMessage, backend_frame, HasBackendFrame, ErrorResponse, ReadyForQuery}
use Rattle.pg_wire.specs.Server.{IsPrefixOf}
use Rattle.pg_wire.specs.Refusals.{BeginsCopyResponse}
use Rattle.pg_exchanges.specs.Expecting.{BeginsKnowing}
use Rattle.pg_exchanges.specs.Answering.{described}
use Rattle.pg_columns.specs.Told.{columns_of}
use Rattle.pg_call.specs.declared.kind.Kind.TheVariants as kinds
use Rattle.pg_call.specs.declared.request.Request.{Request}
use Rattle.pg_call.specs.declared.request.Request.TheVariants as requests
use Rattle.pg_rows.specs.Rows.{RowSeen}
use Rattle.pg_call.specs.declared.answer.CallItem.{CallItem}
use Rattle.pg_call.specs.declared.answer.CallItem.TheVariants.{Row}
use Rattle.pg_call.specs.declared.answer.CallAnswer.{CallAnswer}
use Rattle.pg_call.specs.declared.answer.CallAnswer.TheVariants as answers
use Rattle.pg_call.specs.declared.judging.Part.{Part}
use Rattle.pg_call.specs.declared.ledger.Ledger.{Ledger}
use Rattle.pg_call.specs.declared.reply.Reply.{Reply}
use Rattle.pg_call.specs.declared.calling.Call.{Call}
use Rattle.pg_call.specs.declared.calling.Call.TheVariants as calls
use Rattle.pg_call.specs.declared.calling.Beat.{Beat}
use Rattle.pg_call.specs.declared.calling.Beat.TheVariants as beats
use Rattle.pg_call.specs.declared.calling.Taken.{Taken}
use Rattle.pg_call.specs.declared.running.Running.{Running}
use Rattle.pg_call.specs.Requests.{Group, said_in, spelled, kind_of, groups_of, messages_of, farewell, heading_of, request_behind, rest_of, told, widths_of, CanBeSaid, IsRefusal, looked_behind}
use Rattle.pg_call.specs.Items.{heading_after, parameters_after, own_items, shown, tally_of, answer_to}
use Rattle.pg_call.specs.Replies.{awaits_first, part_after, may_stray}
use Rattle.pg_call.specs.Drains.{is_error, before_readys, after_readys, failed_after, drain_fails}
use Rattle.pg_call.specs.Hearing.{IsOpen, IsReplied, framed, fails_of, just, looks_up}

-- ---- a running call

-- replies were owed when it began, and some of them may still be
pub record IsDraining (start : Ledger) (said : List FrontendMessage) (hs : List Frame) (items : List CallItem) (ledger : Ledger) (failed : Bool) : Type 0 where
  pub said_is : said ≡ drain_fails start.is_copy_failed hs
  pub items_are : items ≡ []
  pub counted : count_by is_ready hs + ledger.owed ≡ start.owed
  pub owner : ledger.is_copy_failed ≡ start.is_copy_failed && not (list_any is_ready hs)
  pub failed_is : failed ≡ failed_after start.is_copy_failed hs
  pub well : count_by is_error hs ≡ 0
  pub none : after_readys start.owed hs ≡ []
  pub all : before_readys start.owed hs ≡ hs

-- all that was owed is read, and the message that ends the session is queued
pub record IsClosing (start : Ledger) (said : List FrontendMessage) (hs : List Frame) (items : List CallItem) (ledger : Ledger) : Type 0 where
  pub drained : List FrontendMessage
  pub failed : Bool
  pub draining : IsDraining start drained hs items ledger failed
  pub said_is : said ≡ drained ++ farewell kinds.Close
  pub owes : ledger.owed ≡ 0

-- its own reply comes: these messages so far
pub record IsReplying (start : Ledger) (r : Request) (said : List FrontendMessage) (hs : List Frame) (items : List CallItem) (reply : Reply) : Type 0 where
  pub own : List BackendMessage
  pub kind_is : reply.kind ≡ kind_of r
  pub one : length (groups_of r) ≡ 1
  pub said_is : said ≡ drain_fails start.is_copy_failed (before_readys start.owed hs) ++ said_in (groups_of r)
  pub counted : count_by is_ready hs ≡ start.owed
  pub well : count_by is_error hs ≡ 0
  pub own_is : after_readys start.owed hs ≡ map backend_frame own
  pub own_have_frames : AllByRecursion HasBackendFrame own
  pub so_far : part_after (awaits_first r) own ≡ Some reply.part
  pub rest_is : reply.rest ≡ rest_of r
  pub heading_is : reply.heading ≡ heading_after (heading_of r) own
  pub parameters_are : reply.parameters ≡ parameters_after [] own
  pub tally_is : reply.tally ≡ tally_of reply.kind (own_items r own)
  pub items_are : items ≡ shown reply.kind (own_items r own)

-- its reply alone is owed
abbrev pub owes_own : Ledger
owes_own = record { owed = 1; is_copy_failed = false }

abbrev pub owes_none : Ledger
owes_none = record { owed = 0; is_copy_failed = false }

-- The call r, which began with this ledger, has queued these messages, heard these frames and shown these items.
abbrev pub CallIs : Ledger → Request → List FrontendMessage → List Frame → List CallItem → Ledger → Call → Type 0
CallIs start r said hs items ledger (calls.Asked asked) = (asked ≡ r) × (ledger ≡ start) × (said ≡ []) × (hs ≡ []) × (items ≡ [])
CallIs start r said hs items ledger (calls.Waiting w) = (w.kind ≡ kind_of r) × (w.frames ≡ spelled (messages_of r)) × CanBeSaid r × IsDraining start said hs items ledger w.is_copy_failed × (w.part ≡ awaits_first r) × (w.rest ≡ rest_of r) × (w.heading ≡ heading_of r)
CallIs start r said hs items ledger (calls.Own reply) = (ledger ≡ owes_own) × CanBeSaid r × IsReplying start r said hs items reply
CallIs start r said hs items ledger calls.Closing = (kind_of r ≡ kinds.Close) × CanBeSaid r × IsClosing start said hs items ledger
CallIs start r said hs items ledger calls.Idle = ⊥

-- a message is awaited: of the call's own reply, or of one that is owed
abbrev pub IsAwaiting : Ledger → Call → Type 0
IsAwaiting ledger (calls.Waiting waiting) = 0 < ledger.owed
IsAwaiting ledger (calls.Asked request) = ⊥
IsAwaiting ledger calls.Closing = ⊥
IsAwaiting ledger _ = Unit {0}

-- ---- its end

-- whether the first reply that is owed belongs to a call that has queued CopyFail for it
abbrev pub owner_failed : Ledger → List Frame → List Group → Bool → Bool
owner_failed start hs [] copied = start.is_copy_failed && not (list_any is_ready hs)
owner_failed start hs (group ∷ groups) copied = copied

-- What a call leaves that is dropped, or ends by an error: what it queued is a front of what it asks; what it showed are the first of
-- the items of its own reply; and a reply is owed for each group queued that has had none.
pub record Leaves (start : Ledger) (r : Request) (said : List FrontendMessage) (hs : List Frame) (items : List CallItem) (ledger : Ledger) (copied : Bool) : Type 0 where
  pub own : List Group
  pub bye : List FrontendMessage
  pub reply : List BackendMessage
  pub said_is : said ≡ drain_fails start.is_copy_failed (before_readys start.owed hs) ++ (said_in own ++ bye) ++ fails_of copied
  pub counted : count_by is_ready hs + ledger.owed ≡ start.owed + length own
  pub failed_is : ledger.is_copy_failed ≡ owner_failed start hs own copied
  pub queued : (own ≡ []) ⊎ ((own ≡ groups_of r) × (length own ≡ 1) × CanBeSaid r × (count_by is_ready hs ≡ start.owed))
  pub farewells : (bye ≡ []) ⊎ ((bye ≡ farewell (kind_of r)) × CanBeSaid r)
  pub replied : after_readys start.owed hs ≡ map backend_frame reply
  pub reply_has_frames : AllByRecursion HasBackendFrame reply
  pub shows : IsPrefixOf items (shown (kind_of r) (own_items r reply))
  pub idle : own ≡ [] → items ≡ []
  pub rests : ledger.owed ≡ 0 → after_readys start.owed hs ≡ []

-- the last of these frames is ReadyForQuery, if there is one
abbrev pub EndsByReady : List Frame → Type 0
EndsByReady hs = (hs ≡ []) ⊎ ((front : List Frame) × (last : Frame) × (hs ≡ front ++ last ∷ []) × (is_ready last ≡ true))

-- the last of these frames is ReadyForQuery of this status
abbrev pub EndsByStatus : List Frame → TransactionStatus → Type 0
EndsByStatus hs status = (front : List Frame) × (hs ≡ front ++ backend_frame (ReadyForQuery status) ∷ [])

-- What a call leaves that has come to its end: all was asked, all was read without an error, and all was shown.
pub record IsFine (start : Ledger) (r : Request) (said : List FrontendMessage) (hs : List Frame) (items : List CallItem) (ledger : Ledger) : Type 0 where
  pub reply : List BackendMessage
  -- of the last message
  pub status : TransactionStatus
  pub can : CanBeSaid r
  pub said_is : said ≡ drain_fails start.is_copy_failed (before_readys start.owed hs) ++ messages_of r
  pub owes : ledger.owed ≡ 0
  pub counted : count_by is_ready hs ≡ start.owed + length (groups_of r)
  pub well : count_by is_error hs ≡ 0
  pub replied : after_readys start.owed hs ≡ map backend_frame reply
  pub reply_has_frames : AllByRecursion HasBackendFrame reply
  pub items_are : items ≡ shown (kind_of r) (own_items r reply)
  pub ends : EndsByReady hs
  pub last : (groups_of r ≡ []) ⊎ EndsByStatus hs status

-- What is asked behind a description, behind a lookup and behind a close: what the statement was described for, and what the other one was closed for. What every other call answers is told by its
-- items and by the status behind them.
abbrev pub next_of : Request → List BackendMessage → Option Request
next_of (requests.Describe extended) reply = Some (requests.Describe (told (parameters_after [] reply) (Some (columns_of (described reply))) extended))
next_of (requests.Look lookup) reply = Some (requests.Describe lookup.extended)
next_of (requests.Evict eviction) reply = Some (request_behind eviction.after)
next_of (requests.Fill filling) reply = Some (requests.Run (looked_behind filling.bound))
next_of _ reply = None

-- a statement is told as it was described
abbrev pub own_answer : Request → Result CallAnswer Error → Result CallAnswer Error
own_answer (requests.Prepare prepared) answer = Ok (answers.Statement prepared)
own_answer _ answer = answer

abbrev pub answer_or_next : Option Request → Result CallAnswer Error → Beat
answer_or_next None answer = beats.Ends answer
answer_or_next (Some next) answer = beats.HandsOn next

-- what the end of its reply comes to
abbrev pub answer_by : Request → List BackendMessage → TransactionStatus → Beat
answer_by r reply status = answer_or_next (next_of r reply) (own_answer r (answer_to (kind_of r) (own_items r reply) status))

-- it ends with the answer to its reply, or hands on what is asked next
abbrev pub EndsFine : Ledger → Request → List FrontendMessage → List Frame → List CallItem → Ledger → Beat → Type 0
EndsFine start r said hs items ledger beat = (f : IsFine start r said hs items ledger) × (answer_by r f.reply f.status ≡ beat)

-- the last message is a copy, which some server begins there in its response to the call's group, and which nobody has asked for
pub record EndsAstray (start : Ledger) (r : Request) (hs : List Frame) (tag : ℕ) : Type 0 where
  pub front : List Frame
  pub own : List BackendMessage
  pub part : Part
  pub last : BackendMessage
  pub hs_are : hs ≡ front ++ backend_frame last ∷ []
  pub last_has_frame : HasBackendFrame last
  pub tagged : tag ≡ (backend_frame last).tag
  pub own_is : after_readys start.owed front ≡ map backend_frame own
  pub own_have_frames : AllByRecursion HasBackendFrame own
  pub so_far : part_after (awaits_first r) own ≡ Some part
  pub copies : may_stray part last ≡ true
  pub lawful : (group : Group) → groups_of r ≡ group ∷ [] → BeginsCopyResponse group (after_readys start.owed hs)

-- what a call answers at its end
abbrev pub CallEnds : Ledger → Request → List FrontendMessage → List Frame → List CallItem → Ledger → Result CallAnswer Error → Type 0
CallEnds start r said hs items ledger (Ok answer) = EndsFine start r said hs items ledger (beats.Ends (Ok answer))
CallEnds start r said hs items ledger (Err errors.RowNotFound) = EndsFine start r said hs items ledger (beats.Ends (Err errors.RowNotFound))
CallEnds start r said hs items ledger (Err (errors.BeginFailed status)) = EndsFine start r said hs items ledger (beats.Ends (Err (errors.BeginFailed status)))
CallEnds start r said hs items ledger (Err (errors.Database error)) = Leaves start r said hs items ledger false
    × ((front : List Frame) × (hs ≡ front ++ backend_frame (ErrorResponse error) ∷ []) × HasBackendFrame (ErrorResponse error) × (count_by is_error front ≡ 0))
CallEnds start r said hs items ledger (Err (errors.Protocol (protocol.Reply tag))) = ((l : Leaves start r said hs items ledger (tag == 71)) × (l.own ≡ groups_of r) × (length l.own ≡ 1)) × (count_by is_error hs ≡ 0) × EndsAstray start r hs tag
CallEnds start r said hs items ledger (Err (errors.Protocol (protocol.Caller fault))) = (said ≡ []) × (hs ≡ []) × (items ≡ []) × (ledger ≡ start) × IsRefusal r (errors.Protocol (protocol.Caller fault))
CallEnds start r said hs items ledger (Err _) = ⊥

-- some message has this frame
abbrev pub HasMessage : Frame → Type 0
HasMessage f = (m : BackendMessage) × HasBackendFrame m × (backend_frame m ≡ f)

-- Why the frame at the front is refused: no message has it; or one has, and behind what has come of it, it begins no response to the call's group of any server
-- whose statement has the columns that are known.
abbrev pub IsFrontFault : Ledger → Request → List Group → List Frame → Frame → Error → Type 0
IsFrontFault start r own hs f errors.OutOfMemory = Unit {0}
IsFrontFault start r own hs f (errors.Protocol (protocol.Server (faults.Malformed tag))) = (tag ≡ f.tag) × ((m : BackendMessage) → HasBackendFrame m → backend_frame m ≡ f → ⊥)
IsFrontFault start r own hs f (errors.Protocol (protocol.Server (faults.Unlawful tag))) = (tag ≡ f.tag) × HasMessage f × (own ≡ groups_of r) × (count_by is_ready hs ≡ start.owed)
    × ((group : Group) × (groups_of r ≡ group ∷ []) × (BeginsKnowing (widths_of r) group (after_readys start.owed hs ++ f ∷ []) → ⊥))
IsFrontFault start r own hs f _ = ⊥

-- ---- one message

-- what a beat says of a call that has queued, heard and shown all this
abbrev pub CallTakes : Ledger → Request → List FrontendMessage → List Frame → List CallItem → Ledger → Call → Beat → Type 0
CallTakes start r said hs items ledger call beats.More = CallIs start r said hs items ledger call
CallTakes start r said hs items ledger call beats.Waits = ⊥
CallTakes start r said hs items ledger call (beats.Yields item) = CallIs start r said hs (items ++ item ∷ []) ledger call
CallTakes start r said hs items ledger call (beats.Opens opened) = CallIs start r said hs items ledger call × (kind_of r ≡ kinds.CopyIn) × IsOpen call
CallTakes start r said hs items ledger call (beats.Ends answer) = (call ≡ calls.Idle) × CallEnds start r said hs items ledger answer × OnOk answer (kind_of r ≡ kinds.Close → ⊥)
CallTakes start r said hs items ledger call (beats.HandsOn next) = (call ≡ calls.Idle) × EndsFine start r said hs items ledger (beats.HandsOn next) × (kind_of r ≡ kinds.Close → ⊥)

-- The message ends the call, or leaves it where it stands: behind the replies of earlier calls, or in its own, for which no CopyFail
-- is due then.
abbrev pub StaysIn : Call → Bool → Call → Type 0
StaysIn before fails calls.Idle = Unit {0}
StaysIn (calls.Waiting old) fails (calls.Waiting new) = Unit {0}
StaysIn (calls.Own old) fails (calls.Own new) = fails ≡ false
StaysIn before fails behind = ⊥

-- whatever the call had queued, heard and shown before this message, this is what it has now
abbrev pub TakesMessage : ℕ → List ℕ → Running → Running → Taken → Type 0
TakesMessage tag body a b taken = (start : Ledger) (r : Request) (said : List FrontendMessage) (hs : List Frame) (items : List CallItem)
    → CallIs start r said hs items a.ledger a.call → CallTakes start r (said ++ fails_of taken.fails_copy) (hs ++ framed tag body ∷ []) items b.ledger b.call taken.beat

-- a row of the own reply is taken that shows nothing, and from which nothing is learnt
abbrev pub PassesRowOf : List ℕ → Running → Running → Type 0
PassesRowOf body a b = TakesMessage 68 body a b (just beats.More) × StaysIn a.call false b.call × IsReplied b.call × (looks_up b.call ≡ false)

-- the same of any other message, which opens no copy
abbrev pub PassesOf : ℕ → List ℕ → Running → Running → Type 0
PassesOf tag body a b = (tag ≢ 68) × (tag ≢ 71) × TakesMessage tag body a b (just beats.More) × StaysIn a.call false b.call × IsReplied b.call

-- the own reply has come to its end by this message, which comes to this
abbrev pub EndsBy : List ℕ → Beat → Running → Running → Type 0
EndsBy body beat a b = TakesMessage 90 body a b (just beat) × StaysIn a.call false b.call × (beat ≢ beats.Waits)

-- the same of a row that is shown at once
abbrev pub ShowsRowOf : List ℕ → RowSeen → Running → Running → Type 0
ShowsRowOf body row a b = TakesMessage 68 body a b (just (beats.Yields (Row row))) × StaysIn a.call false b.call × IsReplied b.call × (looks_up b.call ≡ false)

-- why the message is refused, whatever came before it
abbrev pub RefusesMessage : ℕ → List ℕ → Running → Error → Type 0
RefusesMessage tag body a e = (start : Ledger) (r : Request) (said : List FrontendMessage) (hs : List Frame) (items : List CallItem)
    → CallIs start r said hs items a.ledger a.call → (l : Leaves start r said hs items a.ledger false) × (count_by is_error hs ≡ 0) × IsFrontFault start r l.own hs (framed tag body) e
