-- What is seen of a dial over sockets.
use Rattle.std.specs.declared.io.ErrorKind.{ErrorKind}
use Rattle.std.specs.declared.io.ErrorKind.TheVariants as kinds
use Rattle.pg_conn.specs.Dials.{DialSeen}
use Rattle.pg_conn.specs.declared.dial.DialFailed.{DialFailed}
use Rattle.pg_conn.specs.declared.dial.DialFailed.TheVariants as failed

-- A dial over sockets: its random source, and what is seen of it.
pub record SocketDialOf (A : Type 0) : Type 0 where
  pub random : A
  pub seen : DialSeen

-- want of memory is told as such, and any other refusal of the system is a fault
abbrev pub failure_of : ErrorKind → DialFailed
failure_of kinds.OutOfMemory = failed.OutOfMemory
failure_of _ = failed.Fault
