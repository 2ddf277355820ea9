use Rattle.std.proofs.Common.{sym, ◌∙◌}
use Rattle.pg_sample.proofs.ScriptLaws.{steps_more}
use Rattle.pg_sample.proofs.scripting.steps.Goals as goal

pub loop-index-preserved : goal.loop-index-preserved
loop-index-preserved c = (rw (c.loop-index.invariant, c.in_ok-step.ensures) at c.in_ok-push.ensures.items) ∙ sym (steps_more c.loop-index.index)
