-- The server where COPY is allowed: the same relation, with copies in both directions (PostgreSQL manual, "COPY Operations").
use Rattle.pg_wire.specs.declared.fields.ErrorField.{ErrorField}
use Rattle.pg_wire.specs.declared.status.TransactionStatus.{TransactionStatus}
use Rattle.std.specs.Prelude.{◌≡◌, ℕ, ℤ, true, cond, ◌⊎◌, ◌||◌, List, [], ◌∷◌, ◌++◌, length, map, Option, Some, None, flat_map}
use Rattle.std.specs.List.{AllByRecursion}
use Rattle.pg_wire.specs.Frame.{Frame}
use Rattle.pg_wire.specs.Frontend.{FrontendMessage, frontend_frame, HasFrontendFrame, Query, Execute, Sync, Terminate, CopyData, CopyDone}
use Rattle.pg_wire.specs.Backend.{FieldDescription, BackendMessage, backend_frame, HasBackendFrame, ReadyForQuery, CommandComplete, ErrorResponse, CopyInResponse, CopyOutResponse, BackendCopyData, BackendCopyDone}
use Rattle.pg_wire.specs.Server.{Server, fresh_server, ServerStep, IsSegment, EndsInError, AreSegments, IsPortalResult, portal_at, IsPrefixOf}

-- whether the server waits for a client's copy data, and what message has asked for the copy
pub data CopyMode : Type 0 where
  NotCopying : CopyMode
  QueryCopies : CopyMode
  ExecuteCopies : CopyMode

pub record CopyServer : Type 0 where
  pub server : Server
  pub mode : CopyMode

-- a server at the end of start-up
abbrev pub fresh_copy_server : CopyServer
fresh_copy_server = record { server = fresh_server; mode = NotCopying }

-- the server behind a step, and its mode
abbrev pub Leaves : Server → CopyMode → CopyServer → Type 0
Leaves server mode new = new ≡ record { server = server; mode = mode }

-- ---- what may be copied

-- a copy to the client: CopyOutResponse, the data, CopyDone, and the completion
abbrev pub IsCopyOut : List BackendMessage → Type 0
IsCopyOut rs = (format : ℤ) × (columns : List ℤ) × (pieces : List (List ℕ)) × (tag : List ℕ)
    × (rs ≡ CopyOutResponse format columns ∷ map BackendCopyData pieces ++ BackendCopyDone ∷ CommandComplete tag ∷ [])

-- a segment of the response to a Query
abbrev pub IsCopySegment : List BackendMessage → Type 0
IsCopySegment rs = IsSegment rs ⊎ IsCopyOut rs

-- what Execute gives
abbrev pub IsPortalCopy : ℕ → List BackendMessage → Type 0
IsPortalCopy width rs = IsPortalResult width rs ⊎ IsCopyOut rs

-- the message that asks the client for data
abbrev pub IsCopyInResponse : BackendMessage → Type 0
IsCopyInResponse a = (format : ℤ) × (columns : List ℤ) × (a ≡ CopyInResponse format columns)

-- whole segments, and CopyInResponse: the rest of the response comes once the copy has ended
abbrev pub PausesForCopy : List BackendMessage → Type 0
PausesForCopy rs = (before : List (List BackendMessage)) × (a : BackendMessage) × AllByRecursion IsCopySegment before × IsCopyInResponse a × (rs ≡ flat_map (λ segment. segment) before ++ a ∷ [])

-- ---- the steps

-- the response to a Query, or to what is left of one: to its end, or up to a copy from the client
abbrev pub AnswersQuery : Server → List BackendMessage → CopyServer → Type 0
AnswersQuery server rs new = (AreSegments IsCopySegment rs × Leaves server NotCopying new) ⊎ (PausesForCopy rs × Leaves server QueryCopies new)

-- an error ends the copy, and with it the response to the Query
abbrev pub FailsQuery : Server → List BackendMessage → CopyServer → Type 0
FailsQuery server rs new = (details : List ErrorField) × (status : TransactionStatus) × (rs ≡ ErrorResponse details ∷ ReadyForQuery status ∷ []) × Leaves server NotCopying new

-- an error ends the copy, and everything is skipped up to the next Sync
abbrev pub FailsExecute : Server → List BackendMessage → CopyServer → Type 0
FailsExecute server rs new = (details : List ErrorField) × (rs ≡ ErrorResponse details ∷ []) × Leaves (record server { skip = true }) NotCopying new

-- Execute: the portal's result or a copy to the client, which may end in an error, or a copy from the client
abbrev pub StepsCopyExecute : Server → Option (List FieldDescription) → List BackendMessage → CopyServer → Type 0
StepsCopyExecute server None rs new = FailsExecute server rs new
StepsCopyExecute server (Some fields) rs new =
    (IsPortalCopy (length fields) rs × Leaves server NotCopying new)
    ⊎ ((EndsInError (IsPortalCopy (length fields)) rs × Leaves (record server { skip = true }) NotCopying new)
    ⊎ ((a : BackendMessage) × IsCopyInResponse a × (rs ≡ a ∷ []) × Leaves server ExecuteCopies new))

-- where no copy is going on: a Query and an Execute may begin one, and every other message is as without copies
abbrev pub StepsOutsideCopy : Server → FrontendMessage → List BackendMessage → CopyServer → Type 0
StepsOutsideCopy server (Query sql) rs new = AnswersQuery (record server { unnamed = None; portal = None }) rs new
StepsOutsideCopy server (Execute name limit) rs new = StepsCopyExecute server (portal_at server name) rs new
StepsOutsideCopy server message rs new = (next : Server) × ServerStep server message rs next × Leaves next NotCopying new

-- while a Query copies from the client: data has no reply; CopyDone completes the command and goes on with the Query, or fails; Terminate ends
-- the session; for Sync there is no case; every other message, CopyFail among them, fails
abbrev pub StepsInQueryCopy : Server → FrontendMessage → List BackendMessage → CopyServer → Type 0
StepsInQueryCopy server (CopyData bytes) rs new = (rs ≡ []) × Leaves server QueryCopies new
StepsInQueryCopy server CopyDone rs new =
    ((tag : List ℕ) × (more : List BackendMessage) × (rs ≡ CommandComplete tag ∷ more)
    × (((status : TransactionStatus) × (more ≡ ReadyForQuery status ∷ []) × Leaves server NotCopying new) ⊎ AnswersQuery server more new))
    ⊎ FailsQuery server rs new
StepsInQueryCopy server Sync rs new = ⊥
StepsInQueryCopy server Terminate rs new = (rs ≡ []) × Leaves (record server { over = true }) NotCopying new
StepsInQueryCopy server _ rs new = FailsQuery server rs new

-- the same while an Execute does; its ReadyForQuery comes at the Sync
abbrev pub StepsInExecuteCopy : Server → FrontendMessage → List BackendMessage → CopyServer → Type 0
StepsInExecuteCopy server (CopyData bytes) rs new = (rs ≡ []) × Leaves server ExecuteCopies new
StepsInExecuteCopy server CopyDone rs new = ((tag : List ℕ) × (rs ≡ CommandComplete tag ∷ []) × Leaves server NotCopying new) ⊎ FailsExecute server rs new
StepsInExecuteCopy server Sync rs new = ⊥
StepsInExecuteCopy server Terminate rs new = (rs ≡ []) × Leaves (record server { over = true }) NotCopying new
StepsInExecuteCopy server _ rs new = FailsExecute server rs new

abbrev pub StepsInMode : Server → CopyMode → FrontendMessage → List BackendMessage → CopyServer → Type 0
StepsInMode server NotCopying message rs new = StepsOutsideCopy server message rs new
StepsInMode server QueryCopies message rs new = StepsInQueryCopy server message rs new
StepsInMode server ExecuteCopies message rs new = StepsInExecuteCopy server message rs new

-- the replies to one message, and the server behind them; one that skips, or has heard Terminate, does what it does without copies
abbrev pub CopyStep : CopyServer → FrontendMessage → List BackendMessage → CopyServer → Type 0
CopyStep old message rs new = cond (old.server.over || old.server.skip)
    ((next : Server) × ServerStep old.server message rs next × Leaves next old.mode new)
    (StepsInMode old.server old.mode message rs new)

-- the replies to each message of a list, and the server behind all of them
abbrev pub CopyRun : CopyServer → List FrontendMessage → List (List BackendMessage) → CopyServer → Type 0
CopyRun old [] [] new = new ≡ old
CopyRun old (message ∷ messages) (rs ∷ rss) new = (mid : CopyServer) × CopyStep old message rs mid × CopyRun mid messages rss new
CopyRun old [] (rs ∷ rss) new = ⊥
CopyRun old (message ∷ messages) [] new = ⊥

-- The frames heard, without asynchronous ones, are replies to the frames sent, where copies are allowed.
pub record AreCopyReplies (sent heard : List Frame) : Type 0 where
  pub messages : List FrontendMessage
  pub replies : List (List BackendMessage)
  pub after : CopyServer
  pub messages_have_frames : AllByRecursion HasFrontendFrame messages
  pub sent_is : sent ≡ map frontend_frame messages
  pub run : CopyRun fresh_copy_server messages replies after
  pub replies_have_frames : AllByRecursion HasBackendFrame (flat_map (λ rs. rs) replies)
  pub heard_is : IsPrefixOf heard (map backend_frame (flat_map (λ rs. rs) replies))
