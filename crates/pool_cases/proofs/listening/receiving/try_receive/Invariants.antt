use Rattle.std.proofs.Common.{◌≡◌, false}
use Rattle.pool_cases.proofs.listening.receiving.try_receive.Given as goal

abbrev pub invariant-loop : goal.invariant-loop
invariant-loop g l = l.state.is_over ≡ false
