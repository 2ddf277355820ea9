-- Each end other than Ok has its cause, and some ends are due.
use Rattle.std.specs.Prelude.{◌≡◌, ◌≢◌, ℕ, ℤ, ◌+◌, ◌*◌, ◌≤◌, ◌<◌, ◌⊎◌, true, false, List, [], ◌∷◌, ◌++◌, length, Some, None}
use Rattle.pg_wire.specs.declared.status.TransactionStatus.TheVariants as statuses
use Rattle.pg_wire.specs.declared.status.TransactionStatus.{TransactionStatus}
use Rattle.std.specs.List.{AllByRecursion}
use Rattle.pg_wire.specs.declared.error.Error.{Error}
use Rattle.pg_wire.specs.declared.error.Error.TheVariants as errors
use Rattle.pg_wire.specs.declared.error.IoCause.TheVariants as io
use Rattle.pg_wire.specs.declared.error.ProtocolFault.TheVariants as protocol
use Rattle.pg_wire.specs.declared.error.ServerFault.{ServerFault}
use Rattle.pg_wire.specs.declared.error.ServerFault.TheVariants as faults
use Rattle.pg_wire.specs.Frame.{Frame, bytes_of, backend_tags, IsWhole}
use Rattle.pg_wire.specs.Parts.{is_asynchronous}
use Rattle.pg_wire.specs.Backend.{BackendMessage, backend_frame, HasBackendFrame, CopyInResponse, ErrorResponse, ReadyForQuery}
use Rattle.pg_wire.specs.Frontend.{CopyFail, HasFrontendFrame}
use Rattle.pg_wire.specs.Refusals.{BeginsCopyResponse}
use Rattle.pg_exchanges.specs.Expecting.{Widths, BeginsKnowing}
use Rattle.pg_stream.specs.Links.{Rose}
use Rattle.pg_stream.specs.Streams.{HeaderFault, HasNone, IsMalformedFront}
use Rattle.pg_call.specs.declared.judging.Part.{Part}
use Rattle.pg_call.specs.Requests.{Group, groups_of, widths_of, CanBeSaid, IsRefusal}
use Rattle.pg_call.specs.declared.request.Request.{Request}
use Rattle.pg_call.specs.Replies.{awaits_first, part_after, may_stray}
use Rattle.pg_call.specs.Calls.{HasMessage}
use Rattle.pg_conn.specs.Looking.{LookFails}
use Rattle.pg_report.specs.declared.outcome.Answer.TheVariants.{Unit as AnswersUnit}
use Rattle.pg_report.specs.declared.outcome.End.{End}
use Rattle.pg_report.specs.declared.outcome.End.TheVariants as ends
use Rattle.pg_report.specs.declared.outcome.Outcome.{Outcome}
use Rattle.pg_script.specs.declared.step.Call.TheVariants as calls
use Rattle.pg_script.specs.declared.step.Step.{Step}
use Rattle.pg_script.specs.declared.step.Parting.{Parting}
use Rattle.pg_script.specs.declared.step.Parting.TheVariants as partings
use Rattle.pg_play.specs.Shown.{request_of, items_in, is_row, wants_row, waits_to_show, begins, begins_with, parting_of}
use Rattle.pg_play.specs.Calls.{IsUnpolled, WaitsFew, untouched}
use Rattle.pg_play.specs.Places.{Place, ended, owed, main_frames}
use Rattle.pg_play.specs.Told.{HasNoError, Carry}

-- ---- the frame that breaks the connection

-- it stands whole in front of what was read and not taken, and is no asynchronous message
pub record IsFront (next : Place) (front : Frame) : Type 0 where
  pub rest : List ℕ
  pub whole : IsWhole backend_tags front
  pub answers : is_asynchronous front ≡ false
  pub held : next.seen.held ≡ bytes_of front ++ rest

-- no message has this frame
abbrev pub HasNoMessage : Frame → Type 0
HasNoMessage frame = (m : BackendMessage) → HasBackendFrame m → backend_frame m ≡ frame → ⊥

-- the front is in its format; but behind what has come of the response, it begins no response of any server to the group, copies allowed, whose
-- statement has the columns that are known
pub record IsUnlawful (widths : Widths) (at : Place) (own : List Group) (slice : List Frame) (next : Place) (tag : ℕ) : Type 0 where
  pub front : Frame
  pub is_front : IsFront next front
  pub tagged : tag ≡ front.tag
  pub message : HasMessage front
  pub group : Group
  pub last : own ≡ group ∷ []
  pub in_own : ended next ≡ length at.groups
  pub none : BeginsKnowing widths group (main_frames at own slice ++ front ∷ []) → ⊥

-- a fault of the server: a header, or the frame in front, shows it
abbrev pub ShowsFault : Widths → Place → List Group → List Frame → Place → ServerFault → Type 0
ShowsFault widths at own slice next (faults.Malformed tag) = IsMalformedFront next.seen.held tag ⊎ ((front : Frame) × IsFront next front × (tag ≡ front.tag) × HasNoMessage front)
ShowsFault widths at own slice next (faults.Unlawful tag) = IsUnlawful widths at own slice next tag
ShowsFault widths at own slice next fault = HeaderFault next.seen.held fault

-- the last frame heard begins a copy, which some server begins there in its response to the own group, and which nobody has asked for
pub record IsAskedToCopy (at : Place) (step : Step) (own : List Group) (slice : List Frame) (tag : ℕ) : Type 0 where
  pub front : List Frame
  pub last : BackendMessage
  pub slice_is : slice ≡ front ++ backend_frame last ∷ []
  pub last_has_frame : HasBackendFrame last
  pub tagged : tag ≡ (backend_frame last).tag
  pub whole : own ≡ groups_of (request_of at.rule.depth step.call)
  pub before : List BackendMessage
  pub part : Part
  pub says : Carry (main_frames at own slice) (before ++ last ∷ [])
  pub so_far : part_after (awaits_first (request_of at.rule.depth step.call)) before ≡ Some part
  pub copies : may_stray part last ≡ true
  pub lawful : (group : Group) → own ≡ group ∷ [] → BeginsCopyResponse group (main_frames at own slice)

-- the response to the own group came to its end without an error and without a row
pub record HasNoRow (at : Place) (step : Step) (own : List Group) (slice : List Frame) (next : Place) : Type 0 where
  pub wants : wants_row step.call ≡ true
  pub no_error : HasNoError slice
  pub answered : ended next ≡ length next.groups
  pub whole : own ≡ groups_of (request_of at.rule.depth step.call)
  pub response : List BackendMessage
  pub says : Carry (main_frames at own slice) response
  pub no_row : AllByRecursion (λ item. is_row item ≡ false) (items_in response)

-- the response to a begin came to its end without an error, and no transaction is open behind it
pub record BeginsNone (at : Place) (step : Step) (own : List Group) (slice : List Frame) (status : TransactionStatus) : Type 0 where
  pub begins_it : begins step.call ≡ true
  pub no_error : HasNoError slice
  pub whole : own ≡ groups_of (request_of at.rule.depth step.call)
  pub front : List Frame
  pub slice_is : slice ≡ front ++ backend_frame (ReadyForQuery status) ∷ []
  pub other : status ≢ statuses.Transaction

-- a text of its own would open a savepoint
abbrev pub OpensSavepoint : Place → Step → Type 0
OpensSavepoint at step = (begins_with step.call ≡ true) × (0 < at.rule.depth)

-- ---- why a step failed

abbrev pub Causes : Place → Step → List Group → List Frame → Place → Error → Type 0
Causes at step own slice next errors.OutOfMemory = Unit {0}
Causes at step own slice next (errors.Io io.Fault) = Rose at.seen.link.faults next.seen.link.faults
Causes at step own slice next (errors.Io io.End) = Rose at.seen.link.ends next.seen.link.ends × (next.seen.unsent ≡ []) × (ended next < length next.groups)
Causes at step own slice next (errors.Database details) = (front : List Frame) × (slice ≡ front ++ backend_frame (ErrorResponse details) ∷ []) × HasBackendFrame (ErrorResponse details)
Causes at step own slice next (errors.Protocol (protocol.Server fault)) = (at.broken ≡ Some fault) ⊎ ShowsFault (widths_of (request_of at.rule.depth step.call)) at own slice next fault
Causes at step own slice next (errors.Protocol (protocol.Reply tag)) = IsAskedToCopy at step own slice tag
Causes at step own slice next (errors.Protocol (protocol.Caller fault)) = (own ≡ []) × (slice ≡ []) × IsRefusal (request_of at.rule.depth step.call) (errors.Protocol (protocol.Caller fault))
Causes at step own slice next errors.RowNotFound = HasNoRow at step own slice next
Causes at step own slice next (errors.BeginFailed status) = BeginsNone at step own slice status
Causes at step own slice next errors.InvalidSavePointStatement = OpensSavepoint at step × (own ≡ []) × (slice ≡ [])
Causes at step own slice next (errors.Protocol (protocol.Types oids)) = LookFails (request_of at.rule.depth step.call) slice next.learnt (errors.Protocol (protocol.Types oids))
Causes at step own slice next (errors.ColumnDecode place) = LookFails (request_of at.rule.depth step.call) slice next.learnt (errors.ColumnDecode place)
Causes at step own slice next (errors.TypeNotFound name) = LookFails (request_of at.rule.depth step.call) slice next.learnt (errors.TypeNotFound name)
Causes at step own slice next _ = ⊥

-- ---- why a step was dropped

-- where no write waited in the step, and fewer than 256 moves were made: all was sent, no whole frame is held, and a reply is owed
abbrev pub IsStarved : Place → Outcome → Place → Type 0
IsStarved at out next =
    Rose at.seen.link.write_waits next.seen.link.write_waits
    ⊎ ((256 ≤ out.moved)
    ⊎ ((next.seen.unsent ≡ []) × HasNone next.seen.held × (ended next < length next.groups)))

-- so many of its polls answered `Pending`: each for one wait of the link, or after 256 moves
abbrev pub AnsweredPending : Outcome → ℕ → Type 0
AnsweredPending out polls = (spent : ℕ) × (out.waits + spent ≡ polls) × (256 * spent ≤ out.moved)

-- a step is dropped unpolled, after so many polls that answered `Pending`, or with so many items; why a copy from the client that is open is given up, its exchange says
abbrev pub IsDroppedAs : Parting → Place → Step → Outcome → Place → Type 0
IsDroppedAs partings.None at step out next = IsUnpolled step ⊎ ((AnsweredPending out step.polls × IsStarved at out next) ⊎ (length out.items ≡ step.most))
IsDroppedAs parting at step out next = Unit {0}

abbrev pub IsDropped : Place → Step → Outcome → Place → Type 0
IsDropped at step out next = IsDroppedAs (parting_of step.call) at step out next

-- the response to the own group begins a copy from the client, and no more of it was heard
abbrev pub HasOpened : Place → List Group → List Frame → Type 0
HasOpened at own slice = (own ≢ []) × ((format : ℤ) × (columns : List ℤ) × (main_frames at own slice ≡ backend_frame (CopyInResponse format columns) ∷ []))

-- a copy from the client is given up while it is open: where it is left as it stands all is sent, and what fails it has a frame
abbrev pub IsParted : Parting → Place → List Group → List Frame → Place → Type 0
IsParted partings.None at own slice next = Unit {0}
IsParted partings.Left at own slice next = HasOpened at own slice × (next.seen.unsent ≡ [])
IsParted partings.Unsaid at own slice next = HasOpened at own slice
IsParted (partings.Failed message) at own slice next = HasOpened at own slice × HasFrontendFrame (CopyFail message)

-- an exchange's end has its cause; why a step is dropped otherwise, all of its polls say
abbrev pub HasCause : Place → Step → List Group → List Frame → Place → End → Type 0
HasCause at step own slice next (ends.Ok answer) = Unit {0}
HasCause at step own slice next (ends.Err e) = Causes at step own slice next e
HasCause at step own slice next ends.Dropped = IsUnpolled step ⊎ IsParted (parting_of step.call) at own slice next

-- ---- ends that are due

-- nothing is queued and nothing is taken: only the numbers of the last poll and of the last call change
abbrev pub StaysAt : Place → Place → Type 0
StaysAt at next = next ≡ record at { seen = record at.seen { left = next.seen.left; waits = next.seen.waits; moves = next.seen.moves } }

-- so it is on a broken connection, which answers no other fault than its own
abbrev pub KeepsFault : ServerFault → Place → End → Place → Type 0
KeepsFault fault at end next = StaysAt at next × ((other : ServerFault) → end ≡ ends.Err (errors.Protocol (protocol.Server other)) → other ≡ fault)

-- the step began by asking this
pub record EndsDuly (at : Place) (step : Step) (first : Request) (out : Outcome) (next : Place) : Type 0 where
  -- a text of its own opens no savepoint: that is refused before all else
  pub savepoint : (IsUnpolled step → ⊥) → OpensSavepoint at step → (out ≡ untouched (ends.Err errors.InvalidSavePointStatement)) × (next ≡ at)
  -- an unpolled step does nothing
  pub unpolled : IsUnpolled step → (out ≡ untouched ends.Dropped) × (next ≡ at)
  -- a broken connection answers its fault, and does nothing else
  pub kept : (fault : ServerFault) → at.broken ≡ Some fault → (IsUnpolled step → ⊥) → (OpensSavepoint at step → ⊥)
      → ((out ≡ untouched (ends.Err (errors.Protocol (protocol.Server fault)))) ⊎ (out ≡ untouched (ends.Err errors.OutOfMemory))) × (next ≡ record at { seen = record at.seen { waits = next.seen.waits; moves = next.seen.moves } })
  -- what no frame can say is refused at once, where the connection is whole, or memory is wanting; and nothing else is done
  pub refused : at.broken ≡ None → (IsUnpolled step → ⊥) → (OpensSavepoint at step → ⊥) → (CanBeSaid first → ⊥) → (e : Error) × IsRefusal first e × (out ≡ untouched (ends.Err e)) × StaysAt at next
  -- a flush with nothing owed and nothing unsent is Ok at once, where the connection is whole; and nothing else is done
  pub flushed : at.broken ≡ None → (IsUnpolled step → ⊥) → step.call ≡ calls.Flush → owed at ≡ 0 → at.seen.unsent ≡ [] → (out ≡ untouched (ends.Ok AnswersUnit)) × StaysAt at next
  -- fewer of its polls than it has answer `Pending`, or it is dropped
  pub few : (pending : ℕ) × AnsweredPending out pending × WaitsFew step.polls pending out.end
  -- a call that shows items as they come shows fewer than it may, or is dropped
  pub most : waits_to_show step.call ≡ false → (out.end ≢ ends.Dropped → length out.items < step.most) × (length out.items ≤ step.most)
