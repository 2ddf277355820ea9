use Rattle.std.proofs.Common.{◌≡◌, ◌-◌}
use Rattle.pg_wire.specs.Reading.{many_at, signed16_at}
use Rattle.pg_wire.proofs.LoopLaws.{with_front}
use Rattle.pg_wire.proofs.message.copy_response.codes.Given as goal

abbrev pub invariant-loop : goal.invariant-loop
invariant-loop l = with_front l.codes.items (many_at signed16_at (l.count - l.counter) l.rest) ≡ many_at signed16_at l.count l.bytes
