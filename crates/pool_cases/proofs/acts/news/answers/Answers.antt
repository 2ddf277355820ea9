use Rattle.pool_cases.proofs.acts.news.answers.Goals as goal

pub loop-preserved : goal.loop-preserved
loop-preserved c = c.poll_notification-answer.ensures.1.finds.step.reads.keeping
