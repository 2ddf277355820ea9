use Rattle.std.proofs.Common.{◌≡◌, false, true}
use Rattle.pg_listening.specs.Listeners.{goes_on}
use Rattle.pool_cases.proofs.listening.changing.change_channels.Given as goal

abbrev pub invariant-loop : goal.invariant-loop
invariant-loop g l = record {
  over : l.state.is_over ≡ false;
  goes : goes_on l.state.change l.state.listener.now.hearing ≡ true;
}
