-- What begins no response of any server, copies allowed ("Message Flow", "COPY Operations"): what makes a client's refusal of a message right.
use Rattle.std.specs.Prelude.{◌≡◌, List, map, None, flat_map}
use Rattle.std.specs.List.{AllByRecursion}
use Rattle.pg_wire.specs.Frame.{Frame}
use Rattle.pg_wire.specs.Frontend.{FrontendMessage}
use Rattle.pg_wire.specs.Backend.{BackendMessage, backend_frame, HasBackendFrame, ReadyForQuery, ErrorResponse, CopyInResponse, CopyOutResponse}
use Rattle.pg_wire.specs.Server.{IsPrefixOf}
use Rattle.pg_wire.specs.Groups.{IsBetween}
use Rattle.pg_wire.specs.Acceptor.{Awaits, FirstSegment, FurtherSegment, next}
use Rattle.pg_wire.specs.Copying.{CopyServer, NotCopying, CopyRun}

-- some server between two groups, with no copy going on, may begin its response to this group with these frames
pub record BeginsCopyResponse (group : List FrontendMessage) (frames : List Frame) : Type 0 where
  pub before : CopyServer
  pub after : CopyServer
  pub replies : List (List BackendMessage)
  pub between : (before.mode ≡ NotCopying) × IsBetween before.server
  pub run : CopyRun before group replies after
  pub replies_have_frames : AllByRecursion HasBackendFrame (flat_map (λ rs. rs) replies)
  pub begins : IsPrefixOf frames (map backend_frame (flat_map (λ rs. rs) replies))

-- a message that begins a copy
abbrev pub BeginsCopy : BackendMessage → Type 0
BeginsCopy (CopyInResponse format columns) = Unit {0}
BeginsCopy (CopyOutResponse format columns) = Unit {0}
BeginsCopy _ = ⊥

-- a copy may begin where a segment of the response to a Query may
abbrev pub MayBeginCopy : Awaits → BackendMessage → Type 0
MayBeginCopy FirstSegment a = BeginsCopy a
MayBeginCopy FurtherSegment a = BeginsCopy a
MayBeginCopy _ a = ⊥

-- whatever message this frame is of, it may not come here, and begins no copy here
abbrev pub IsRefused : Awaits → Frame → Type 0
IsRefused s frame = (m : BackendMessage) → HasBackendFrame m → backend_frame m ≡ frame → (next s m ≡ None) × (MayBeginCopy s m → ⊥)

-- a message that may answer a Sync
abbrev pub MayAnswerSync : BackendMessage → Type 0
MayAnswerSync (ReadyForQuery status) = Unit {0}
MayAnswerSync (ErrorResponse details) = Unit {0}
MayAnswerSync _ = ⊥

-- whatever message this frame is of, it answers no Sync
abbrev pub AnswersNoSync : Frame → Type 0
AnswersNoSync frame = (m : BackendMessage) → HasBackendFrame m → backend_frame m ≡ frame → MayAnswerSync m → ⊥
