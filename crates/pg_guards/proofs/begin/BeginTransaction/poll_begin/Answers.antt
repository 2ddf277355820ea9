use Rattle.std.proofs.Common.{refl}
use Rattle.pg_guards.proofs.HolderLaws.{keeps_held}
use Rattle.pg_guards.proofs.begin.BeginTransaction.poll_begin.Goals as goal

pub invariant_of-self : goal.invariant_of-self
invariant_of-self g c = record { calling = keeps_held g.C.PgExecutor.conn c.poll_held.new.request _ c.poll_held.new.holder refl c.poll_held.ensures.keeps }

pub poll_held-requires-clause-calling : goal.poll_held-requires-clause-calling
poll_held-requires-clause-calling g c = c.args.self.now.calling c.in-Some.conn c.in-Some.is

pub returns-in-Pending-clause-calling : goal.returns-in-Pending-clause-calling
returns-in-Pending-clause-calling g c i = rw c.in-Pending.ensures.asked (c.in-Pending.ensures.calling (rw c.in-Some.is at i))
