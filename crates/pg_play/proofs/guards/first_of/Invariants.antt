use Rattle.std.proofs.Common.{◌≡◌, take}
use Rattle.pg_play.specs.Locks.{HasNone}
use Rattle.pg_play.proofs.guards.first_of.Given as goal

abbrev pub invariant-loop-guard : goal.invariant-loop-guard
invariant-loop-guard l = record {
  at : l.index ≡ l.guard-index;
  none : HasNone l.key (take l.guard-index l.guards);
}
