use Rattle.pg_guards.proofs.HolderLaws.{keeps_none}
use Rattle.pg_guards.proofs.begin.BeginTransaction.hand_on.Goals as goal

pub invariant_of-self : goal.invariant_of-self
invariant_of-self g c = record { calling = keeps_none g.C.PgExecutor.conn c.args.self.now.request c.take.new.self c.take.ensures.after }
