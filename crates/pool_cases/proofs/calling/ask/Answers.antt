use Rattle.pool_cases.proofs.calling.ask.Goals as goal
use Rattle.pool_cases.proofs.calling.ask.Goals.{in-Pending, in-Ready-Some-Ok+else-next-end+else-not-is_row}

pub loop-preserved : goal.loop-preserved
loop-preserved c =
    elim c.match-poll_next.branch [
      | in-Pending w ↦ w.in-Pending.ensures.over
      | in-Ready-Some-Ok+else-next-end+else-not-is_row w ↦ rw (w.in-Ready-Some-Ok.field-0-is, w.in-Ready-Some-Ok.field-0-0-is) at w.in-Ready-Some-Ok.ensures.over
    ]
