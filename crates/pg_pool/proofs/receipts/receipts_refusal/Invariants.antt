use Rattle.std.proofs.Common.{◌≡◌, drop}
use Rattle.pg_pool.specs.Audits.{receipts_difference}
use Rattle.pg_pool.proofs.receipts.receipts_refusal.Given as goal

abbrev pub invariant-loop-receipt : goal.invariant-loop-receipt
invariant-loop-receipt l = receipts_difference l.history l.seat (drop l.receipt-index l.receipts) ≡ receipts_difference l.history l.seat l.receipts
