use Rattle.std.specs.Prelude.{Ok, Err}
use Rattle.futures.specs.declared.task.Poll.TheVariants.{Ready, Pending}
use Rattle.pg_call.specs.declared.kind.Kind.TheVariants as kinds
use Rattle.pg_call.specs.Answers.{statement_turn}
use Rattle.pg_conn.proofs.StateLaws.{kept_behind, kept_fits, kept_over}
use Rattle.pg_conn.proofs.states.prepare.Prepare+L.poll.Goals as goal

pub invariant_of-self : goal.invariant_of-self
invariant_of-self g c = record { calling = kept_behind kinds.Prepare c.args.self.now.request c.args.self.now.conn.now c.poll_with.new.self c.args.self.now.calling c.requires.over g.L.Link.seen c.poll_with.new.request c.poll_with.result c.poll_with.ensures.asked c.poll_with.ensures.polls }

pub into_statement-requires : goal.into_statement-requires
into_statement-requires g c = kept_fits kinds.Prepare c.args.self.now.request c.args.self.now.conn.now c.poll_with.new.self c.args.self.now.calling c.requires.over c.in-Ready.turn (c.in-Ready.ensures.fits kinds.Prepare)

pub returns-in-Pending-clause-over : goal.returns-in-Pending-clause-over
returns-in-Pending-clause-over g c = kept_over kinds.Prepare c.args.self.now.request c.args.self.now.conn.now c.poll_with.new.self c.args.self.now.calling c.requires.over g.L.Link.seen c.poll_with.new.request Pending c.in-Pending.ensures.asked c.in-Pending.ensures.polls

pub returns-in-Ok-clause-polls : goal.returns-in-Ok-clause-polls
returns-in-Ok-clause-polls g c = (
  Ready (Ok c.in-Ok.prepared),
  c.statement.ensures,
  rw c.in-Ok.ensures at c.in-Ready.ensures.polls,
)

pub returns-in-Ok-clause-over : goal.returns-in-Ok-clause-over
returns-in-Ok-clause-over g c = kept_over kinds.Prepare c.args.self.now.request c.args.self.now.conn.now c.poll_with.new.self c.args.self.now.calling c.requires.over g.L.Link.seen c.poll_with.new.request (Ready (statement_turn (Ok c.in-Ok.prepared))) c.in-Ready.ensures.asked (rw c.in-Ok.ensures at c.in-Ready.ensures.polls)

pub returns-in-Err-clause-polls : goal.returns-in-Err-clause-polls
returns-in-Err-clause-polls g c = (
  Ready (Err c.in-Err.e),
  λ i. Err c.in-Err.e,
  rw c.in-Err.ensures at c.in-Ready.ensures.polls,
)

pub returns-in-Err-clause-over : goal.returns-in-Err-clause-over
returns-in-Err-clause-over g c = kept_over kinds.Prepare c.args.self.now.request c.args.self.now.conn.now c.poll_with.new.self c.args.self.now.calling c.requires.over g.L.Link.seen c.poll_with.new.request (Ready (statement_turn (Err c.in-Err.e))) c.in-Ready.ensures.asked (rw c.in-Err.ensures at c.in-Ready.ensures.polls)
