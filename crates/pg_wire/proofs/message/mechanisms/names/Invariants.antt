use Rattle.std.proofs.Common.{◌≡◌, ◌-◌, length}
use Rattle.pg_wire.specs.Reading.{until_at, ended_at}
use Rattle.pg_wire.proofs.LoopLaws.{with_front}
use Rattle.pg_wire.proofs.message.mechanisms.names.Given as goal

abbrev pub invariant-loop : goal.invariant-loop
invariant-loop l = with_front l.names.items (until_at ended_at (length l.bytes - l.counter) l.rest) ≡ until_at ended_at (length l.bytes) l.bytes
