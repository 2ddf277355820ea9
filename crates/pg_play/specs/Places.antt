-- Where a play stands, and what a step queues and hears.
use Rattle.std.specs.Prelude.{◌≡◌, ◌≢◌, ℕ, ◌+◌, ◌-◌, ◌≤◌, ◌⊎◌, Bool, true, false, not, ◌&&◌, ◌==◌, List, [], ◌∷◌, ◌++◌, length, take, drop, replicate, Option, None, unwrap_or, slice_get, count_by, nat_le, if◌then◌else◌, MatchBool}
use Rattle.std.specs.List.{list_any}
use Rattle.pg_wire.specs.declared.error.Error.TheVariants as errors
use Rattle.pg_wire.specs.declared.error.ProtocolFault.TheVariants as protocol
use Rattle.pg_wire.specs.declared.error.ServerFault.{ServerFault}
use Rattle.pg_wire.specs.Frame.{Frame}
use Rattle.pg_wire.specs.Frontend.{FrontendMessage}
use Rattle.pg_wire.specs.Parts.{is_ready, parts, heard}
use Rattle.pg_wire.specs.Server.{IsPrefixOf}
use Rattle.pg_stream.specs.Streams.{StreamSeen}
use Rattle.pg_rule.specs.declared.rule.Rule.{Rule}
use Rattle.pg_learning.specs.declared.learnt.Learnt.{Learnt}
use Rattle.pg_learning.specs.Learning.{learnt_none}
use Rattle.pg_conn.specs.Looking.{Learns}
use Rattle.pg_rule.specs.Rules.{new_rule}
use Rattle.pg_wire.specs.Groups.{IsGroup}
use Rattle.pg_call.specs.declared.feed.Feed.{Feed}
use Rattle.pg_call.specs.Requests.{Group, said_in, groups_of, CanBeSaid, copy_fail, feeding}
use Rattle.pg_call.specs.Drains.{is_copy_in}
use Rattle.pg_report.specs.declared.outcome.End.{End}
use Rattle.pg_report.specs.declared.outcome.End.TheVariants as ends
use Rattle.pg_report.specs.declared.outcome.Outcome.{Outcome}
use Rattle.pg_script.specs.declared.step.Step.{Step}
use Rattle.pg_play.specs.Shown.{request_of}
use Rattle.pg_play.specs.Calls.{broken_after}

-- A place of a play, all from the end of start-up on.
pub record Place : Type 0 where
  -- what is seen of the stream
  pub seen : StreamSeen
  -- all messages queued, in order, and the request groups among them, cleanups included
  pub said : List FrontendMessage
  pub groups : List Group
  -- all frames taken
  pub frames : List Frame
  -- whether the call of the first response that is owed has queued CopyFail for it
  pub is_copy_failed : Bool
  -- the fault by which the server broke the connection
  pub broken : Option ServerFault
  -- what is known of the session: how many transactions and savepoints are open, and which statements are kept
  pub rule : Rule
  -- what was looked up of types and of the names of columns, and what is looked up still
  pub learnt : Learnt
  -- whether a copy from the client that was open has been failed
  pub has_failed : Bool

-- behind start-up, where so many statements may be kept
abbrev pub first_place : ℕ → StreamSeen → Place
first_place capacity s = record { seen = s; said = []; groups = []; frames = []; is_copy_failed = false; broken = None; rule = new_rule capacity; learnt = learnt_none; has_failed = false }

-- a request group is one of the simple or the extended query, or a copy from the client with its data ("COPY Operations")
abbrev pub IsRequestGroup : Group → Type 0
IsRequestGroup group = IsGroup group ⊎ ((feed : Feed) × (group ≡ feeding feed))

-- how many ReadyForQuery are among frames
abbrev pub readies : List Frame → ℕ
readies frames = count_by is_ready frames

-- how many responses have come to their end
abbrev pub ended : Place → ℕ
ended at = readies (heard at.frames)

-- how many responses are owed
abbrev pub owed : Place → ℕ
owed at = length at.groups - ended at

-- ---- the responses within what a step hears

-- the frames of the response of this number, within frames that begin behind so many whole responses
abbrev pub response_within : ℕ → List Frame → ℕ → List Frame
response_within before slice number = if nat_le before number then unwrap_or (slice_get (parts slice) (number - before)) [] else []

-- response k answers group k: the frames of the response to the step's last group
abbrev pub main_frames : Place → List Group → List Frame → List Frame
main_frames at [] slice = []
main_frames at (group ∷ groups) slice = response_within (ended at) slice (length at.groups + length groups)

-- the responses that were owed to earlier calls, as far as the step heard them
abbrev pub drained : Place → List Frame → List (List Frame)
drained at slice = take (owed at) (parts slice)

-- ---- what a step queues

abbrev pub is_fine : End → Bool
is_fine (ends.Ok answer) = true
is_fine _ = false

-- a call that was answered by CopyInResponse, which it did not ask for
abbrev pub refuses_copy : End → Bool
refuses_copy (ends.Err (errors.Protocol (protocol.Reply tag))) = tag == 71
refuses_copy _ = false

-- how many of these responses ask for a copy that nobody feeds: all that begin one from the client, but not the first where its own
-- call has ended that one ("COPY Operations")
abbrev pub unfed : Bool → List (List Frame) → ℕ
unfed failed responses = count_by (list_any is_copy_in) (if failed then drop 1 responses else responses)

-- at Ok a call has queued all of its groups, else the first of them
abbrev pub Queues : End → List Group → List Group → Type 0
Queues end whole own = MatchBool (is_fine end) (own ≡ whole) (IsPrefixOf own whole)

-- one CopyFail for each drained response that asks for a copy, then the own groups, and one more where the call itself was asked for one
abbrev pub queued_by : Place → List Group → List Frame → End → List FrontendMessage
queued_by at own slice end = replicate (unfed at.is_copy_failed (drained at slice)) copy_fail ++ said_in own ++ (if refuses_copy end then copy_fail ∷ [] else [])

-- what is known of the first response that is owed behind the step
abbrev pub failed_next : Place → List Group → List Frame → End → Bool
failed_next at [] slice end = at.is_copy_failed && not (list_any is_ready slice)
failed_next at (group ∷ groups) slice end = refuses_copy end

-- From one place to the next a step queued these groups of its own, and heard this slice.
pub record Queued (at : Place) (step : Step) (out : Outcome) (own : List Group) (slice : List Frame) (next : Place) : Type 0 where
  pub asks : Queues out.end (groups_of (request_of at.rule.depth step.call)) own
  pub can : own ≢ [] → CanBeSaid (request_of at.rule.depth step.call)
  pub said : next.said ≡ at.said ++ queued_by at own slice out.end
  pub groups : next.groups ≡ at.groups ++ own
  pub rule : next.rule ≡ at.rule
  -- the rows of a lookup were taken
  pub learns : Learns slice at.learnt next.learnt
  -- the slice follows what was heard before, and nothing is left out
  pub taken : heard next.frames ≡ heard at.frames ++ slice
  pub failed : next.is_copy_failed ≡ failed_next at own slice out.end
  pub broken : next.broken ≡ broken_after at.broken out.end
  pub unfailed : next.has_failed ≡ at.has_failed
  -- a group is queued only where the ReadyForQuery of each group before it was taken
  pub in_turn : own ≢ [] → length next.groups ≤ ended next + 1
