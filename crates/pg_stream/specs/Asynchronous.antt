-- Asynchronous messages, which a server may send between any two others (PostgreSQL manual, "Message Flow",
-- "Asynchronous Operations").
use Rattle.std.specs.Prelude.{◌≡◌, Bool, true, false, Result, Ok, Err}
use Rattle.pg_wire.specs.declared.error.Error.{Error}
use Rattle.pg_wire.specs.Frame.{Frame}
use Rattle.pg_wire.specs.Backend.{BackendMessage}
use Rattle.pg_wire.specs.Parts.{is_asynchronous}
use Rattle.pg_wire.specs.Decoding.{IsRefused}
use Rattle.pg_stream.specs.Parameters.{ParametersSeen, Carries, SetsBy}
use Rattle.pg_stream.specs.Notifications.{KeptSeen, KeepsBy}

-- the frame is in the format of its tag
abbrev pub IsSaid : Frame → Type 0
IsSaid frame = (m : BackendMessage) × Carries frame m

-- an asynchronous message in its format
abbrev pub IsAside : Frame → Type 0
IsAside frame = (is_asynchronous frame ≡ true) × IsSaid frame

-- An asynchronous message is taken aside: a ParameterStatus sets its value, and a NotificationResponse is kept where they are kept. One that is
-- not in its format is refused, and nothing is kept for want of memory.
abbrev pub TakesAside : Frame → ParametersSeen → ParametersSeen → KeptSeen → KeptSeen → Result Bool Error → Type 0
TakesAside frame a b m n (Ok true) = IsAside frame × SetsBy frame a b × KeepsBy frame m n
TakesAside frame a b m n (Ok false) = (is_asynchronous frame ≡ false) × (b ≡ a) × (n ≡ m)
TakesAside frame a b m n (Err e) = (is_asynchronous frame ≡ true) × (b ≡ a) × (n ≡ m) × IsRefused frame.tag frame.body e
