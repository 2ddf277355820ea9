use Rattle.pool_cases.proofs.acts.polling.copy_out.Goals as goal
use Rattle.pool_cases.proofs.acts.polling.copy_out.Goals.{in-Pending, in-Ready-Some-Ok}

pub loop-preserved : goal.loop-preserved
loop-preserved g c = elim c.match-poll_next.branch [
  | in-Pending w ↦ w.in-Pending.ensures.over
  | in-Ready-Some-Ok w ↦ rw (w.in-Ready-Some-Ok.field-0-is, w.in-Ready-Some-Ok.field-0-0-is) at w.in-Ready-Some-Ok.ensures.over
]
