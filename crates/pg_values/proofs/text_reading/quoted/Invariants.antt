use Rattle.std.proofs.Common.{◌≡◌, ◌-◌, length}
use Rattle.pg_wire.proofs.LoopLaws.{with_front}
use Rattle.pg_values.specs.TextReading.{quoted_at}
use Rattle.pg_values.proofs.text_reading.quoted.Given as goal

abbrev pub invariant-loop : goal.invariant-loop
invariant-loop l = with_front l.text.items (quoted_at l.style (length l.bytes - l.counter) l.rest) ≡ quoted_at l.style (length l.bytes) l.bytes
