-- What is seen of a link over a socket: its counts, and no bytes.
use Rattle.std.specs.Prelude.{Bool, true, false, None, []}
use Rattle.std.specs.declared.io.ErrorKind.{ErrorKind}
use Rattle.std.specs.declared.io.ErrorKind.TheVariants.{WouldBlock, TimedOut, Interrupted}
use Rattle.pg_stream.specs.Links.{LinkPlan, LinkSeen, asked_none}

-- there are no events
abbrev pub socket_plan : Bool → Bool → LinkPlan
socket_plan upgradable near = record { reads = []; writes = []; can_upgrade = upgradable; is_local = near }

-- what is seen of a link that was not called yet; it has no TLS
abbrev pub uncalled : Bool → LinkSeen
uncalled near = record {
  plan = socket_plan false near;
  secured = None;
  given = None;
  taken = None;
  wait_places = None;
  read_places = None;
  asked = asked_none;
  calls = 0;
  moved = 0;
  read_waits = 0;
  write_waits = 0;
  ends = 0;
  faults = 0;
  upgrade_faults = 0;
}

-- an error of this kind says only that nothing could be moved within the time, or before a signal
abbrev pub is_wait : ErrorKind → Bool
is_wait WouldBlock = true
is_wait TimedOut = true
is_wait Interrupted = true
is_wait _ = false
