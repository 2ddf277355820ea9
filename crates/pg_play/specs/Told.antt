-- What an exchange's outcome tells of the frames that it heard.
use Rattle.std.specs.Prelude.{◌≡◌, ◌≢◌, ℕ, ◌+◌, ◌-◌, ◌≤◌, ◌^◌, min, true, false, ◌⊎◌, List, [], ◌∷◌, ◌++◌, length, map}
use Rattle.std.specs.List.{AllByRecursion}
use Rattle.pg_wire.specs.declared.error.Error.TheVariants as errors
use Rattle.pg_wire.specs.Frame.{Frame}
use Rattle.pg_wire.specs.Backend.{BackendMessage, backend_frame, HasBackendFrame, ErrorResponse}
use Rattle.pg_wire.specs.declared.fields.ErrorField.{ErrorField}
use Rattle.pg_wire.specs.Server.{IsPrefixOf}
use Rattle.pg_request.specs.declared.progress.CacheStep.TheVariants as cache
use Rattle.pg_stream.specs.Links.{GrewBy}
use Rattle.pg_call.specs.Requests.{Group}
use Rattle.pg_call.specs.Drains.{is_error}
use Rattle.pg_call.specs.Calls.{EndsByReady}
use Rattle.pg_report.specs.declared.outcome.Answer.{Answer}
use Rattle.pg_report.specs.declared.outcome.End.{End}
use Rattle.pg_report.specs.declared.outcome.End.TheVariants as ends
use Rattle.pg_report.specs.declared.outcome.Outcome.{Outcome}
use Rattle.pg_script.specs.declared.step.Step.{Step}
use Rattle.pg_play.specs.Shown.{items_in, shown_by, answered_by, waits_to_show, wants_row, acts_at_once}
use Rattle.pg_play.specs.Places.{Place, main_frames, ended, is_fine}

-- frames that carry these messages, each in the format of its tag
abbrev pub Carry : List Frame → List BackendMessage → Type 0
Carry frames messages = (frames ≡ map backend_frame messages) × AllByRecursion HasBackendFrame messages

abbrev pub HasNoError : List Frame → Type 0
HasNoError frames = AllByRecursion (λ frame. is_error frame ≡ false) frames

-- at Ok all is sent and shown, the answer is the call's, no error was heard, and every response owed was read to its end: the last frame
-- heard, if there is one, is ReadyForQuery
pub record IsWell (step : Step) (out : Outcome) (answer : Answer) (response : List BackendMessage) (slice : List Frame) (next : Place) : Type 0 where
  pub items : out.items ≡ shown_by step.call (items_in response)
  pub answers : answer ≡ answered_by step.call (items_in response)
  pub row : wants_row step.call ≡ true → out.items ≢ []
  pub no_error : HasNoError slice
  pub answered : ended next ≡ length next.groups
  pub ready : EndsByReady slice
  pub sent : next.seen.unsent ≡ []

abbrev pub WellAtOk : End → Step → Outcome → List BackendMessage → List Frame → Place → Type 0
WellAtOk (ends.Ok answer) step out response slice next = IsWell step out answer response slice next
WellAtOk _ step out response slice next = Unit {0}

-- an error ends its slice, and is the answer
abbrev pub AnswersError : End → List Frame → Type 0
AnswersError end slice = HasNoError slice
    ⊎ ((front : List Frame) × (details : List ErrorField) × HasNoError front × (slice ≡ front ++ backend_frame (ErrorResponse details) ∷ []) × (end ≡ ends.Err (errors.Database details)))

-- The messages of the response to the exchange's own group, as far as it was heard, and what its outcome tells of them.
pub record Told (at : Place) (step : Step) (out : Outcome) (own : List Group) (slice : List Frame) (next : Place) : Type 0 where
  pub response : List BackendMessage
  pub says : Carry (main_frames at own slice) response
  pub shows : IsPrefixOf out.items (shown_by step.call (items_in response))
  pub with_answer : waits_to_show step.call ≡ true → is_fine out.end ≡ false → out.items ≡ []
  -- a step that acts at once has no response
  pub well : acts_at_once step.call ≡ false → WellAtOk out.end step out response slice next
  pub error : AnswersError out.end slice

-- a number that counts so many, up to u64's greatest value
abbrev pub CountsTo : ℕ → ℕ → Type 0
CountsTo n number = (number ≤ n) × (min n (2 ^ 64 - 1) ≤ number)

-- The numbers of an exchange's outcome, which no type bounds: groups queued, frames heard, and the link's waits and moves.
pub record Numbers (at : Place) (out : Outcome) (own : List Group) (slice : List Frame) (next : Place) : Type 0 where
  pub groups : out.groups ≡ length own
  pub heard : out.heard ≡ length slice
  pub cache : out.cache ≡ cache.Same
  pub write_waits : ℕ
  pub read_waits : ℕ
  pub moves : ℕ
  pub waits : out.waits ≡ write_waits + read_waits
  pub moved : out.moved ≡ moves
  pub writes : GrewBy write_waits at.seen.link.write_waits next.seen.link.write_waits
  pub reads : GrewBy read_waits at.seen.link.read_waits next.seen.link.read_waits
  pub moving : GrewBy moves at.seen.link.moved next.seen.link.moved
