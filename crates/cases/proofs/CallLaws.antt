-- The state of a migration that waits.
use Rattle.std.proofs.Common.{◌≡◌, true, None}
use Rattle.pg_conn.specs.Connections.{ConnOf}
use Rattle.pg_conn.proofs.StateLaws.{calling_runs}
use Rattle.pg_migrating.specs.Asking.{CallsQuietly, Question, is_asked}

-- it is still to be polled
pub still_asked : {A : Type 0} (question : Question) (c : ConnOf A) → question ≡ None → CallsQuietly None c → is_asked question c.call ≡ true
still_asked question c e q = rw e (calling_runs q.0 c q.2)
