-- Internal: what one message makes of a call, exactly, before any history.
use Rattle.std.specs.Prelude.{◌≡◌, ℕ, ◌-◌, Bool, true, false, ◌==◌, List, [], ◌∷◌, filter, Result, Ok, Err, Option, Some, None, if◌then◌else◌}
use Rattle.pg_wire.specs.declared.error.Error.{Error}
use Rattle.pg_wire.specs.declared.error.Error.TheVariants as errors
use Rattle.pg_wire.specs.declared.error.ProtocolFault.TheVariants as protocol
use Rattle.pg_wire.specs.declared.fields.ErrorField.{ErrorField}
use Rattle.pg_wire.specs.declared.message.copy_response.CopyResponseData.{CopyResponseData}
use Rattle.pg_wire.specs.declared.status.TransactionStatus.{TransactionStatus}
use Rattle.pg_wire.specs.Frame.{Frame}
use Rattle.pg_wire.specs.Parts.{is_ready}
use Rattle.pg_wire.specs.Frontend.{FrontendMessage}
use Rattle.pg_wire.specs.Backend.{BackendMessage, ReadyForQuery, ErrorResponse}
use Rattle.pg_wire.specs.Decoding.{Says}
use Rattle.pg_columns.specs.declared.column.PgColumn.{PgColumn}
use Rattle.pg_call.specs.declared.kind.Kind.{Kind}
use Rattle.pg_call.specs.declared.answer.CallItem.{CallItem}
use Rattle.pg_call.specs.declared.answer.CallAnswer.{CallAnswer}
use Rattle.pg_call.specs.declared.answer.CallAnswer.TheVariants as answers
use Rattle.pg_call.specs.declared.after.Rest.{Rest}
use Rattle.pg_call.specs.declared.after.Rest.TheVariants as rests
use Rattle.pg_call.specs.declared.request.Request.{Request}
use Rattle.pg_call.specs.declared.request.Request.TheVariants as requests
use Rattle.pg_call.specs.declared.waiting.Waiting.{Waiting}
use Rattle.pg_call.specs.declared.tally.Tally.{Tally}
use Rattle.pg_call.specs.declared.judging.News.{News}
use Rattle.pg_call.specs.declared.judging.News.TheVariants as news
use Rattle.pg_call.specs.declared.judging.Part.TheVariants.{Feeding}
use Rattle.pg_call.specs.declared.judging.Part.{Part}
use Rattle.pg_call.specs.declared.ledger.Ledger.{Ledger}
use Rattle.pg_call.specs.declared.reply.Reply.{Reply}
use Rattle.pg_call.specs.declared.reply.Heard.{Heard}
use Rattle.pg_call.specs.declared.reply.Heard.TheVariants as heards
use Rattle.pg_call.specs.declared.calling.Call.{Call}
use Rattle.pg_call.specs.declared.calling.Call.TheVariants as calls
use Rattle.pg_call.specs.declared.calling.Beat.{Beat}
use Rattle.pg_call.specs.declared.calling.Beat.TheVariants as beats
use Rattle.pg_call.specs.declared.calling.Taken.{Taken}
use Rattle.pg_call.specs.declared.running.Running.{Running}
use Rattle.pg_call.specs.Requests.{copy_fail, kind_of, request_behind, rest_of, heading_of, told, looked_behind}
use Rattle.pg_call.specs.Items.{news_of, heading_by, parameters_by, item_by, yields, added, empty_tally, finished, keeps_all, keeps_row, shows_rows}
use Rattle.pg_call.specs.Replies.{awaits_first, goes_on, may_close, may_stray}
use Rattle.pg_call.specs.Drains.{is_error, failed_behind, fails_for}

abbrev pub framed : ℕ → List ℕ → Frame
framed tag body = record { tag = tag; body = body }

-- ---- the own reply

abbrev pub fresh_reply : Waiting → Reply
fresh_reply w = record { kind = w.kind; tally = empty_tally; part = w.part; rest = w.rest; heading = w.heading; parameters = [] }

-- the tally with more items
abbrev pub added_all : Kind → Tally → List CallItem → Tally
added_all kind t [] = t
added_all kind t (i ∷ is) = added_all kind (added kind t i) is

-- the reply with what one message tells
abbrev pub gone_on : Reply → Part → News → Reply
gone_on r part news = record r { tally = added_all r.kind r.tally (item_by r.heading news); part = part; heading = heading_by r.heading news; parameters = parameters_by r.parameters news }

-- which item is shown at once
abbrev pub Shows : List CallItem → Heard → Type 0
Shows items heards.More = items ≡ []
Shows items (heards.Yields item) = items ≡ item ∷ []
Shows items (heards.Opens opened) = items ≡ []
Shows items _ = ⊥

-- the copy from the client that is open now, whose data is awaited
abbrev pub if_awaited : Part → CopyResponseData → Option CopyResponseData
if_awaited (Feeding false) opened = Some opened
if_awaited part opened = None

abbrev pub opens_at : Part → News → Option CopyResponseData
opens_at part (news.Opens opened) = if_awaited part opened
opens_at part _ = None

-- and what is told of it, and of nothing else
abbrev pub Opens : Option CopyResponseData → Heard → Type 0
Opens (Some opened) (heards.Opens told) = opened ≡ told
Opens (Some opened) heard = ⊥
Opens None (heards.Opens told) = ⊥
Opens None heard = Unit {0}

abbrev pub HearsNews : Reply → Reply → Part → News → Heard → Type 0
HearsNews a b part news heard = (b ≡ gone_on a part news) × Shows (filter (yields a.kind) (item_by a.heading news)) heard × Opens (opens_at part news) heard

abbrev pub HearsMessage : Reply → Reply → BackendMessage → Heard → Type 0
HearsMessage a b m (heards.Failed error) = (m ≡ ErrorResponse error) × (b ≡ a)
HearsMessage a b m (heards.Closed status) = (may_close a.part ≡ true) × (m ≡ ReadyForQuery status) × (b ≡ a)
HearsMessage a b m heards.Strays = (may_stray a.part m ≡ true) × (b ≡ a)
HearsMessage a b m heard = (next : Part) × (goes_on a.part m ≡ Some next) × (b ≡ gone_on a next (news_of m)) × Shows (filter (yields a.kind) (item_by a.heading (news_of m))) heard × Opens (opens_at next (news_of m)) heard

abbrev pub Hears : Reply → Reply → ℕ → List ℕ → Heard → Type 0
Hears a b tag body heard = (m : BackendMessage) × Says tag body m × HearsMessage a b m heard

-- ---- the steps before a reply

-- what is asked stands as frames, and waits
abbrev pub waiting_for : Request → List ℕ → Bool → Waiting
waiting_for request frames failed = record { kind = kind_of request; part = awaits_first request; frames = frames; is_copy_failed = failed; rest = rest_of request; heading = heading_of request }

abbrev pub waits : List ℕ → Bool → Call → Call
waits frames failed (calls.Asked request) = calls.Waiting (waiting_for request frames failed)
waits frames failed call = call

-- its frames are queued, and the reply to them is awaited
abbrev pub awaits : Call → Call
awaits (calls.Waiting waiting) = calls.Own (fresh_reply waiting)
awaits call = call

-- what was not begun yet, and what stands where it was taken out
abbrev pub asked_in : Call → Option Request
asked_in (calls.Asked request) = Some request
asked_in call = None

abbrev pub without_asked : Call → Call
without_asked (calls.Asked request) = calls.Idle
without_asked call = call

-- ---- a reply to an earlier call

abbrev pub marked : Bool → Call → Call
marked failed (calls.Waiting waiting) = calls.Waiting (record waiting { is_copy_failed = failed })
marked failed call = call

abbrev pub ledger_behind : Ledger → Frame → Ledger
ledger_behind ledger f = if is_ready f then record { owed = ledger.owed - 1; is_copy_failed = false } else ledger

abbrev pub fails_of : Bool → List FrontendMessage
fails_of fails = if fails then copy_fail ∷ [] else []

-- one frame of a reply that no one waits for
abbrev pub DrainsBy : Frame → Bool → Running → Running → Beat → Bool → Type 0
DrainsBy f failed a b beats.More fails = (is_error f ≡ false) × (b ≡ record { ledger = ledger_behind a.ledger f; call = marked (failed_behind failed f) a.call }) × (fails_of fails ≡ fails_for failed f)
DrainsBy f failed a b (beats.Ends answer) fails = (error : List ErrorField) × Says f.tag f.body (ErrorResponse error) × (answer ≡ Err (errors.Database error)) × (b ≡ record { ledger = a.ledger; call = calls.Idle }) × (fails ≡ false)
DrainsBy f failed a b _ fails = ⊥

abbrev pub Drains : ℕ → List ℕ → Bool → Running → Running → Taken → Type 0
Drains tag body failed a b taken = DrainsBy (framed tag body) failed a b taken.beat taken.fails_copy

-- ---- what a message of the own reply makes of the call

abbrev pub IsReplied : Call → Type 0
IsReplied (calls.Own reply) = Unit {0}
IsReplied _ = ⊥

abbrev pub just : Beat → Taken
just beat = record { beat = beat; fails_copy = false }

abbrev pub idle_with : Ledger → Running
idle_with ledger = record { ledger = ledger; call = calls.Idle }

-- whether a row that comes now is one of the own reply, and shown or kept
abbrev pub keeps_now : Call → Bool
keeps_now (calls.Own reply) = keeps_row reply.kind reply.tally.first
keeps_now _ = false

-- whether all rows of the own reply are kept for its answer
abbrev pub collects : Call → Bool
collects (calls.Own reply) = keeps_all reply.kind
collects _ = false

-- whether each row of the own reply is shown as it comes
abbrev pub shows_now : Call → Bool
shows_now (calls.Own reply) = shows_rows reply.kind
shows_now _ = false

-- whether it is the reply to a lookup
abbrev pub is_look : Rest → Bool
is_look (rests.Look extended) = true
is_look (rests.Fill bound) = true
is_look _ = false

abbrev pub looks_up : Call → Bool
looks_up (calls.Own reply) = is_look reply.rest
looks_up _ = false

-- what its end comes to: its answer, or what is asked next
abbrev pub handed_on : Rest → List ℕ → Option (List PgColumn) → Result CallAnswer Error → Beat
handed_on rests.Nothing parameters columns answer = beats.Ends answer
handed_on (rests.Describe extended) parameters columns answer = beats.HandsOn (requests.Describe (told parameters columns extended))
handed_on (rests.After after) parameters columns answer = beats.HandsOn (request_behind after)
handed_on (rests.Look extended) parameters columns answer = beats.HandsOn (requests.Describe extended)
handed_on (rests.Fill bound) parameters columns answer = beats.HandsOn (requests.Run (looked_behind bound))
handed_on (rests.Tell prepared) parameters columns answer = beats.Ends (Ok (answers.Statement prepared))

-- the answer where nothing is left but to send: a statement is told, where it is asked for
abbrev pub sent_rest : Rest → CallAnswer
sent_rest (rests.Tell prepared) = answers.Statement prepared
sent_rest _ = answers.Unit

abbrev pub sent_answer : Call → CallAnswer
sent_answer (calls.Asked request) = sent_rest (rest_of request)
sent_answer (calls.Waiting waiting) = sent_rest waiting.rest
sent_answer _ = answers.Unit

abbrev pub finished_by : TransactionStatus → Call → Beat
finished_by status (calls.Own reply) = handed_on reply.rest reply.parameters reply.heading.columns (finished reply.kind reply.tally status)
finished_by status _ = beats.Ends (Err errors.OutOfMemory)

-- its end tells this status, and may come
abbrev pub ClosesBy : TransactionStatus → List ℕ → Call → Type 0
ClosesBy status body (calls.Own reply) = Hears reply reply 90 body (heards.Closed status)
ClosesBy status body _ = ⊥

abbrev pub Closes : TransactionStatus → Running → Running → Taken → Type 0
Closes status a b taken = (b ≡ idle_with (record { owed = 0; is_copy_failed = false })) × (taken ≡ just (finished_by status a.call))

abbrev pub RefusesCopy : ℕ → Running → Running → Taken → Type 0
RefusesCopy tag a b taken = (b ≡ idle_with (record { owed = a.ledger.owed; is_copy_failed = tag == 71 }))
    × (taken ≡ record { beat = beats.Ends (Err (errors.Protocol (protocol.Reply tag))); fails_copy = tag == 71 })

abbrev pub Follows : ℕ → Heard → Running → Running → Taken → Type 0
Follows tag heards.More a b taken = (b ≡ a) × (taken ≡ just beats.More)
Follows tag (heards.Yields item) a b taken = (b ≡ a) × (taken ≡ just (beats.Yields item))
Follows tag (heards.Opens opened) a b taken = (b ≡ a) × (taken ≡ just (beats.Opens opened))
Follows tag (heards.Failed error) a b taken = (b ≡ idle_with a.ledger) × (taken ≡ just (beats.Ends (Err (errors.Database error))))
Follows tag (heards.Closed status) a b taken = Closes status a b taken
Follows tag heards.Strays a b taken = RefusesCopy tag a b taken

-- ---- a copy from the client that is fed

abbrev pub IsOpen : Call → Type 0
IsOpen (calls.Own reply) = reply.part ≡ Feeding false
IsOpen _ = ⊥

-- all of its data is sent
abbrev pub fed_part : Part → Part
fed_part (Feeding ended) = Feeding true
fed_part part = part

abbrev pub fed_whole : Call → Call
fed_whole (calls.Own reply) = calls.Own (record reply { part = fed_part reply.part })
fed_whole call = call
