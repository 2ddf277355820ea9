use Rattle.std.proofs.Common.{◌≡◌, drop}
use Rattle.pg_pool.specs.Audits.{seats_difference}
use Rattle.pg_pool.proofs.receipts.seats_refusal.Given as goal

abbrev pub invariant-loop-seat : goal.invariant-loop-seat
invariant-loop-seat g l = seats_difference l.history (drop l.seat-index l.seats) ≡ seats_difference l.history l.seats
