-- What becomes of a copy from the client whose call has ended, or was dropped (PostgreSQL manual, "Message Flow", "COPY Operations").
use Rattle.std.specs.Prelude.{◌≡◌, Bool, true, false, not, ◌&&◌, ◌||◌, List, [], ◌∷◌, ◌++◌, if◌then◌else◌}
use Rattle.pg_wire.specs.declared.error.Error.TheVariants as errors
use Rattle.pg_wire.specs.Frontend.{FrontendMessage, CopyFail}
use Rattle.pg_call.specs.Requests.{Group, copy_fail, spelled}
use Rattle.pg_report.specs.declared.outcome.End.{End}
use Rattle.pg_report.specs.declared.outcome.End.TheVariants as ends
use Rattle.pg_script.specs.declared.step.Call.{Call}
use Rattle.pg_script.specs.declared.step.Call.TheVariants as calls
use Rattle.pg_script.specs.declared.step.Parting.{Parting}
use Rattle.pg_script.specs.declared.step.Parting.TheVariants as partings
use Rattle.pg_play.specs.Places.{Place, is_fine, refuses_copy}
use Rattle.pg_play.specs.Shown.{parting_of}

-- nothing is left to be failed: it ended well, an error of the server has ended it, or the CopyFail for it is queued already
abbrev pub is_over : End → Bool
is_over (ends.Ok answer) = true
is_over (ends.Err (errors.Database details)) = true
is_over end = refuses_copy end

-- a CopyFail is due where it was begun, and its data is awaited
abbrev pub fails : Call → List Group → End → Bool
fails (calls.Feed fed) (group ∷ groups) end = not (fed.is_ended || is_over end)
fails call own end = false

-- the message by which it is failed: its own, where it was given up by one
abbrev pub failing_by : Parting → End → FrontendMessage
failing_by (partings.Failed message) ends.Dropped = CopyFail message
failing_by parting end = copy_fail

abbrev pub failing : Call → List Group → End → List FrontendMessage
failing call own end = if fails call own end then failing_by (parting_of call) end ∷ [] else []

-- whether none is due any more for the response to it that stays owed
abbrev pub is_failed_by : Call → List Group → End → Bool
is_failed_by (calls.Feed fed) (group ∷ groups) end = not (is_fine end) && (fed.is_ended || not (is_over end))
is_failed_by call own end = false

-- From the place where the call ended, this is left of it: the CopyFail is unsent, and takes of the room that was kept for it, where it isn't given up by a message of its own.
abbrev pub LeavesCopy : Call → List Group → End → Place → Place → Type 0
LeavesCopy call own end ended_at left_at = left_at ≡ record ended_at {
  said = ended_at.said ++ failing call own end;
  seen = record ended_at.seen { unsent = ended_at.seen.unsent ++ spelled (failing call own end); spare = left_at.seen.spare };
  is_copy_failed = is_failed_by call own end || ended_at.is_copy_failed;
  has_failed = fails call own end || ended_at.has_failed;
}
