use Rattle.std.proofs.Common.{◌≡◌}
use Rattle.pool_cases.proofs.live.call_often.Given as goal

abbrev pub invariant-loop : goal.invariant-loop
invariant-loop l = l.held.name ≡ l.initial.held.name
