-- The replies that are owed to earlier calls, and the copies from the client that are ended within them.
use Rattle.std.specs.Prelude.{ℕ, zero, suc, List, [], ◌∷◌, ◌++◌, Bool, false, not, ◌&&◌, ◌||◌, codes, if◌then◌else◌}
use Rattle.pg_wire.specs.Frame.{Frame, is_known}
use Rattle.pg_wire.specs.Parts.{is_ready}
use Rattle.pg_wire.specs.Frontend.{FrontendMessage}
use Rattle.pg_call.specs.Requests.{copy_fail}

abbrev pub is_error : Frame → Bool
is_error frame = is_known (codes "E") frame.tag

-- a copy from the client begins
abbrev pub is_copy_in : Frame → Bool
is_copy_in frame = is_known (codes "G") frame.tag

-- the frames up to the last of so many ReadyForQuery, and those behind it
abbrev pub before_readys : ℕ → List Frame → List Frame
before_readys zero frames = []
before_readys (suc n) [] = []
before_readys (suc n) (f ∷ fs) = f ∷ before_readys (if is_ready f then n else suc n) fs

abbrev pub after_readys : ℕ → List Frame → List Frame
after_readys zero frames = frames
after_readys (suc n) [] = []
after_readys (suc n) (f ∷ fs) = after_readys (if is_ready f then n else suc n) fs

-- whether a CopyFail was queued for the reply that comes now: for the first copy from the client in it, or before
abbrev pub failed_behind : Bool → Frame → Bool
failed_behind failed f = if is_ready f then false else failed || is_copy_in f

abbrev pub failed_after : Bool → List Frame → Bool
failed_after failed [] = failed
failed_after failed (f ∷ fs) = failed_after (failed_behind failed f) fs

-- one CopyFail for the first copy from the client in each reply
abbrev pub fails_for : Bool → Frame → List FrontendMessage
fails_for failed f = if is_copy_in f && not failed then copy_fail ∷ [] else []

abbrev pub drain_fails : Bool → List Frame → List FrontendMessage
drain_fails failed [] = []
drain_fails failed (f ∷ fs) = fails_for failed f ++ drain_fails (failed_behind failed f) fs
