use Rattle.std.proofs.Common.{◌≡◌, ◌-◌}
use Rattle.pg_wire.specs.Reading.{many_at, number32_at}
use Rattle.pg_wire.proofs.LoopLaws.{with_front}
use Rattle.pg_wire.proofs.message.parameter_description.types.Given as goal

abbrev pub invariant-loop : goal.invariant-loop
invariant-loop l = with_front l.types.items (many_at number32_at (l.count - l.counter) l.rest) ≡ many_at number32_at l.count l.bytes
