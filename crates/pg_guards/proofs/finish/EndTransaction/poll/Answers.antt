use Rattle.pg_guards.proofs.finish.EndTransaction.poll.Goals as goal

pub invariant_of-self : goal.invariant_of-self
invariant_of-self g c = record { calling = c.poll_held-answer.ensures.keeps }
