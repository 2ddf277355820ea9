use Rattle.std.proofs.Common.{◌≡◌, ◌+◌, List, length, ap, ◌∙◌, arith}
use Rattle.pg_pool.specs.Seats.{SeatSeen}
use Rattle.pg_pool.specs.Audits.{receipts_in}
use Rattle.pg_pool.proofs.AuditLaws.{receipts_in-more}
use Rattle.pg_pool.proofs.receipts.merged.Goals as goal

pub loop-seat-init : goal.loop-seat-init
loop-seat-init g c =
    let all : receipts_in c.args.seats.items ≡ receipts_in c.pop.new.self.items + length c.in-Some.seat.receipts =
    ap (λ (ss : List SeatSeen). receipts_in ss) c.in-Some.ensures.items ∙ receipts_in-more c.pop.new.self.items c.in-Some.seat in
    record {
      parts = omega (arith, c.into_share-all.ensures.parts, c.in-Some.ensures.len);
      amount = omega (arith, c.into_share-all.ensures.amount, all);
    }

pub loop-seat-preserved : goal.loop-seat-preserved
loop-seat-preserved g c =
    let all : receipts_in c.loop-seat.seats.items ≡ receipts_in c.pop-in-loop-seat.new.self.items + length c.in-Some-pop.seat.receipts =
    ap (λ (ss : List SeatSeen). receipts_in ss) c.in-Some-pop.ensures.items ∙ receipts_in-more c.pop-in-loop-seat.new.self.items c.in-Some-pop.seat in
    record {
      parts = omega (arith, c.into_share.ensures.parts, c.in-Some-pop.ensures.len, c.merge.ensures.parts, c.loop-seat.invariant.parts);
      amount = omega (arith, c.into_share.ensures.amount, c.merge.ensures.amount, c.loop-seat.invariant.amount, all);
    }
