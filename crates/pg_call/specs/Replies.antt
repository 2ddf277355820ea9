-- What may come next in the reply to a group, message by message (PostgreSQL manual, "Message Flow", "Simple Query", "Extended Query",
-- "COPY Operations").
use Rattle.std.specs.Prelude.{◌≡◌, ℕ, ◌-◌, nat_eq, replicate, List, [], ◌∷◌, length, codes, Bool, true, false, ◌==◌, if◌then◌else◌, Option, Some, None, Result, Ok, Err, option_and_then}
use Rattle.pg_wire.specs.declared.error.Error.{Error}
use Rattle.pg_wire.specs.declared.error.Error.TheVariants as errors
use Rattle.pg_wire.specs.declared.error.ProtocolFault.TheVariants as protocol
use Rattle.pg_wire.specs.declared.error.ServerFault.TheVariants as faults
use Rattle.pg_wire.specs.Backend.{FieldDescription, BackendMessage, Values, ReadyForQuery, RowDescription, DataRow, CommandComplete, ErrorResponse, EmptyQueryResponse, ParameterDescription, ParseComplete, BindComplete, CloseComplete, NoData, CopyInResponse, CopyOutResponse, BackendCopyData, BackendCopyDone}
use Rattle.pg_wire.specs.Acceptor.{FirstSegment, FurtherSegment, RowsOf}
use Rattle.pg_exchanges.specs.Expecting.{Parses, Types, Columns, Binds, Runs, RunsOn, Closes, Expected, InQuery, InSteps}
use Rattle.pg_wire.specs.Decoding.{Says, IsRefused}
use Rattle.pg_call.specs.declared.kind.Kind.{Kind}
use Rattle.pg_call.specs.declared.kind.Kind.TheVariants as kinds
use Rattle.pg_call.specs.declared.request.Request.{Request}
use Rattle.pg_call.specs.declared.request.Request.TheVariants as requests
use Rattle.pg_call.specs.Requests.{kind_of, width_of}
use Rattle.pg_call.specs.declared.answer.CallItem.{CallItem}
use Rattle.pg_call.specs.declared.judging.Part.{Part}
use Rattle.pg_call.specs.declared.judging.Part.TheVariants.{First, Further, Rows, Synced, Parsing, Typing, Describing, Described, Reparsing, Binding, Running, RunningOn, Closing, CopyFirst, CopyData, CopyEnd, Copied, Opening, Feeding}
use Rattle.pg_call.specs.declared.judging.News.TheVariants.{Nothing}
use Rattle.pg_call.specs.declared.judging.Verdict.{Verdict}
use Rattle.pg_call.specs.declared.judging.Verdict.TheVariants as verdicts
use Rattle.pg_call.specs.Items.{news_of}

-- what a call awaits first of its own reply
abbrev pub first_part : Kind → Part
first_part (kinds.Run how) = First
first_part kinds.Begin = First
first_part kinds.Commit = First
first_part kinds.Rollback = First
first_part kinds.CopyOut = CopyFirst
first_part _ = Synced

-- that so many statements are closed, and then the end
abbrev pub closing : ℕ → Part
closing count = if nat_eq count 0 then Synced else Closing (count - 1)

-- that a statement is prepared once more, or that it is bound
abbrev pub awaits_run : Option ℕ → Option (List ℕ) → Part
awaits_run width None = Binding width
awaits_run width (Some sql) = Reparsing

abbrev pub awaits_first : Request → Part
awaits_first (requests.Describe extended) = Parsing
awaits_first (requests.Look lookup) = First
awaits_first (requests.Run bound) = awaits_run (width_of bound) bound.again
awaits_first (requests.Evict eviction) = Closing 0
awaits_first (requests.Fill filling) = First
awaits_first (requests.Clear statements) = closing (length statements)
awaits_first (requests.CopyIn feed) = Opening feed.is_ended
awaits_first request = first_part (kind_of request)

-- the first message of a segment, and what comes behind it
abbrev pub begins : BackendMessage → Option Part
begins (RowDescription fields) = Some (Rows (length fields))
begins (CommandComplete tag) = Some Further
begins EmptyQueryResponse = Some Further
begins _ = None

-- behind a row of so many values; None where none may come
abbrev pub row_of : ℕ → ℕ → Part → Option Part
row_of columns width part = if width == columns then Some part else None

abbrev pub after_row : Part → ℕ → Option Part
after_row (Rows columns) width = row_of columns width (Rows columns)
after_row (Running None) width = Some (RunningOn width)
after_row (Running (Some columns)) width = row_of columns width (RunningOn columns)
after_row (RunningOn columns) width = row_of columns width (RunningOn columns)
after_row _ width = None

-- behind a description of so many columns
abbrev pub after_columns : Part → ℕ → Part
after_columns Describing columns = Described columns
after_columns _ columns = Rows columns

-- behind ParseComplete
abbrev pub after_parse : Part → Part
after_parse Reparsing = Binding None
after_parse part = Typing

-- behind BindComplete
abbrev pub after_bind : Part → Part
after_bind (Binding width) = Running width
after_bind part = part

-- behind CloseComplete
abbrev pub after_close : Part → Part
after_close (Closing more) = closing more
after_close part = part

-- behind CopyInResponse
abbrev pub after_opening : Part → Part
after_opening (Opening ended) = Feeding ended
after_opening part = part

-- behind the end of a statement
abbrev pub after_end : Part → Part
after_end (Running width) = Closing 0
after_end (RunningOn width) = Closing 0
after_end CopyEnd = Copied
after_end (Feeding ended) = Copied
after_end _ = Further

-- what is awaited behind one more message; None where the reply doesn't go on by it
abbrev pub goes_on : Part → BackendMessage → Option Part
goes_on First m = begins m
goes_on Further m = begins m
goes_on (Rows columns) (DataRow values) = after_row (Rows columns) (length values)
goes_on (Rows columns) (CommandComplete tag) = Some Further
goes_on Parsing ParseComplete = Some Typing
goes_on Reparsing ParseComplete = Some (Binding None)
goes_on Typing (ParameterDescription types) = Some Describing
goes_on Describing (RowDescription fields) = Some (Described (length fields))
goes_on Describing NoData = Some (Described 0)
goes_on (Binding width) BindComplete = Some (Running width)
goes_on (Running width) (DataRow values) = after_row (Running width) (length values)
goes_on (Running width) (CommandComplete tag) = Some (Closing 0)
goes_on (Running width) EmptyQueryResponse = Some (Closing 0)
goes_on (RunningOn columns) (DataRow values) = after_row (RunningOn columns) (length values)
goes_on (RunningOn columns) (CommandComplete tag) = Some (Closing 0)
goes_on (RunningOn columns) EmptyQueryResponse = Some (Closing 0)
goes_on (Closing more) CloseComplete = Some (closing more)
goes_on CopyFirst (CopyOutResponse format columns) = Some CopyData
goes_on CopyData (BackendCopyData bytes) = Some CopyData
goes_on CopyData BackendCopyDone = Some CopyEnd
goes_on CopyEnd (CommandComplete tag) = Some Copied
goes_on (Opening ended) (CopyInResponse format columns) = Some (Feeding ended)
goes_on (Feeding true) (CommandComplete tag) = Some Copied
goes_on _ _ = None

-- what is awaited behind these messages
abbrev pub part_after : Part → List BackendMessage → Option Part
part_after part [] = Some part
part_after part (m ∷ ms) = option_and_then (λ next. part_after next ms) (goes_on part m)

-- ReadyForQuery may come
abbrev pub may_close : Part → Bool
may_close Further = true
may_close Synced = true
may_close (Described columns) = true
may_close Copied = true
may_close _ = false

-- a copy may begin, from the client or to it
abbrev pub begins_copy : BackendMessage → Bool
begins_copy (CopyInResponse format columns) = true
begins_copy (CopyOutResponse format columns) = true
begins_copy _ = false

-- a segment of the response to a Query may begin
abbrev pub begins_segment : BackendMessage → Bool
begins_segment (RowDescription fields) = true
begins_segment (CommandComplete tag) = true
begins_segment EmptyQueryResponse = true
begins_segment m = begins_copy m

-- another reply may come than the one that is awaited: a copy for which nobody has asked, or what is no copy where one is asked for
abbrev pub may_stray : Part → BackendMessage → Bool
may_stray First m = begins_copy m
may_stray Further m = begins_copy m
may_stray (Running width) m = begins_copy m
may_stray CopyFirst (CopyOutResponse format columns) = false
may_stray CopyFirst m = begins_segment m
may_stray Copied m = begins_segment m
may_stray (Opening ended) (CopyInResponse format columns) = false
may_stray (Opening ended) m = begins_segment m
may_stray _ _ = false

-- the tags of the messages that are awaited, and of the others that may come
abbrev pub tags_of : Part → List ℕ
tags_of First = codes "TCIE"
tags_of Further = codes "TCIEZ"
tags_of (Rows columns) = codes "DCE"
tags_of Synced = codes "EZ"
tags_of Parsing = codes "1E"
tags_of Reparsing = codes "1E"
tags_of Typing = codes "tE"
tags_of Describing = codes "TnE"
tags_of (Described columns) = codes "EZ"
tags_of (Binding width) = codes "2E"
tags_of (Running width) = codes "DCIE"
tags_of (RunningOn columns) = codes "DCIE"
tags_of (Closing more) = codes "3E"
tags_of CopyFirst = codes "HE"
tags_of CopyData = codes "dcE"
tags_of CopyEnd = codes "CE"
tags_of Copied = codes "EZ"
tags_of (Opening ended) = codes "GE"
tags_of (Feeding true) = codes "CE"
tags_of (Feeding false) = codes "E"

abbrev pub stray_tags : Part → List ℕ
stray_tags First = codes "GH"
stray_tags Further = codes "GH"
stray_tags (Running width) = codes "GH"
stray_tags CopyFirst = codes "TCIG"
stray_tags Copied = codes "TCIGH"
stray_tags (Opening ended) = codes "TCIH"
stray_tags _ = []

-- what a part awaits, as the protocol says it, outside of copies
abbrev pub awaited : Part → Expected
awaited First = InQuery FirstSegment
awaited Further = InQuery FurtherSegment
awaited (Rows columns) = InQuery (RowsOf columns)
awaited Synced = InSteps []
awaited Parsing = InSteps (Parses ∷ Types ∷ Columns ∷ [])
awaited Typing = InSteps (Types ∷ Columns ∷ [])
awaited Describing = InSteps (Columns ∷ [])
awaited (Described columns) = InSteps []
awaited Reparsing = InSteps (Parses ∷ Binds ∷ Runs None ∷ Closes ∷ [])
awaited (Binding width) = InSteps (Binds ∷ Runs width ∷ Closes ∷ [])
awaited (Running width) = InSteps (Runs width ∷ Closes ∷ [])
awaited (RunningOn columns) = InSteps (RunsOn columns ∷ Closes ∷ [])
awaited (Closing more) = InSteps (Closes ∷ replicate more Closes)
awaited _ = InSteps []

-- no error, no end, and nothing that the reply goes on by
abbrev pub MayNotCome : Part → BackendMessage → Type 0
MayNotCome part (ErrorResponse details) = ⊥
MayNotCome part (ReadyForQuery status) = may_close part ≡ false
MayNotCome part m = (goes_on part m ≡ None) × (may_stray part m ≡ false)

abbrev pub list_of : Option CallItem → List CallItem
list_of None = []
list_of (Some item) = item ∷ []

-- the reply goes on by a message of which nothing is kept
abbrev pub goes_plainly : Part → Verdict
goes_plainly part = verdicts.On part Nothing

-- what a message is to a reply of which this is awaited
abbrev pub IsVerdict : Part → BackendMessage → Verdict → Type 0
IsVerdict part m (verdicts.On next news) = (goes_on part m ≡ Some next) × (news ≡ news_of m)
IsVerdict part m (verdicts.Failed error) = m ≡ ErrorResponse error
IsVerdict part m (verdicts.Closed status) = (may_close part ≡ true) × (m ≡ ReadyForQuery status)
IsVerdict part m verdicts.Strays = may_stray part m ≡ true

-- the body is that of a message with this tag, or is refused
abbrev pub Checks : {X : Type 0} → ℕ → List ℕ → Result X Error → Type 0
Checks tag body (Ok x) = (m : BackendMessage) × Says tag body m
Checks tag body (Err e) = IsRefused tag body e

-- why a message is refused: its body is not in its format, or is that of a message that may not come
abbrev pub IsFault : (BackendMessage → Type 0) → ℕ → List ℕ → Error → Type 0
IsFault IsOut tag body errors.OutOfMemory = Unit {0}
IsFault IsOut tag body (errors.Protocol (protocol.Server (faults.Malformed t))) = (t ≡ tag) × ((m : BackendMessage) → Says tag body m → ⊥)
IsFault IsOut tag body (errors.Protocol (protocol.Server (faults.Unlawful t))) = (t ≡ tag) × (m : BackendMessage) × Says tag body m × IsOut m
IsFault IsOut tag body _ = ⊥

-- any message
abbrev pub IsAny : BackendMessage → Type 0
IsAny m = Unit {0}

abbrev pub Judges : Part → ℕ → List ℕ → Result Verdict Error → Type 0
Judges part tag body (Ok verdict) = (m : BackendMessage) × Says tag body m × IsVerdict part m verdict
Judges part tag body (Err e) = IsFault (MayNotCome part) tag body e

-- columns that may come, of which nothing is kept, and what is awaited behind them
abbrev pub PassesColumns : Part → List ℕ → Result Part Error → Type 0
PassesColumns part body (Ok next) = (fields : List FieldDescription) × Says 84 body (RowDescription fields) × (goes_on part (RowDescription fields) ≡ Some next)
PassesColumns part body (Err e) = IsFault (MayNotCome part) 84 body e

-- a row that may come, of which nothing is kept, and what is awaited behind it
abbrev pub PassesRow : Part → List ℕ → Result Part Error → Type 0
PassesRow part body (Ok next) = (values : Values) × Says 68 body (DataRow values) × (goes_on part (DataRow values) ≡ Some next)
PassesRow part body (Err e) = IsFault (MayNotCome part) 68 body e
