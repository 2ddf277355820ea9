use Rattle.pg_migrating.proofs.AnswerLaws.{applied_more}
use Rattle.pg_migrating.proofs.listing.all_applied.Goals as goal

pub loop-row-preserved : goal.loop-row-preserved
loop-row-preserved c =
    rw c.in_ok-push.ensures.items (applied_more c.args.rows.now c.loop-row.row-index c.row-item.result c.loop-row.applied.items c.in_ok-applied_in.field-0 c.loop-row-test.true c.row-item.is c.loop-row.invariant c.in_ok-applied_in.ensures.ok)
