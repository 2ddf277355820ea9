use Rattle.std.proofs.Common.{◌≡◌, ◌+◌, vec_len}
use Rattle.pg_pool.specs.Pools.{told_seats, new_seats}
use Rattle.pg_pool.proofs.pool.participants.Given as goal

abbrev pub invariant-loop-number : goal.invariant-loop-number
invariant-loop-number g l = record {
  told : told_seats l.seats.items ≡ new_seats l.name l.number;
  made : vec_len l.seats ≡ l.number;
  parts : l.rest.parts + l.number ≡ l.count;
  amount : l.rest.amount ≡ 0;
}
