use Rattle.std.proofs.Common.{◌≡◌}
use Rattle.pool_cases.proofs.live.work.Given as goal

abbrev pub invariant-loop : goal.invariant-loop
invariant-loop g l = l.seat.name ≡ l.pool.name
