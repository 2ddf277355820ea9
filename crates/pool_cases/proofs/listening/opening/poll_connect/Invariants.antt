use Rattle.std.proofs.Common.{◌≡◌, false, IsSome}
use Rattle.pool_cases.proofs.listening.opening.poll_connect.Given as goal

abbrev pub invariant-loop : goal.invariant-loop
invariant-loop g l = record {
  over : l.state.is_over ≡ false;
  listener : IsSome l.state.listener;
}
