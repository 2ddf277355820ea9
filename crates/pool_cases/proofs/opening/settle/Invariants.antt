use Rattle.std.proofs.Common.{◌≡◌, false}
use Rattle.pool_cases.specs.Names.{IsOfPool}
use Rattle.pool_cases.proofs.opening.settle.Given as goal

abbrev pub invariant-loop : goal.invariant-loop
invariant-loop g l = record {
  goes : l.state.connecting.startup.is_finished ≡ false;
  mine : IsOfPool l.pool.name l.state.ticket;
  theirs : l.seat.name ≡ l.pool.name;
  same : l.seat.name ≡ l.initial.seat.name;
}
