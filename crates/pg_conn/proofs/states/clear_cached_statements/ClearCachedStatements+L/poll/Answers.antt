use Rattle.futures.specs.declared.task.Poll.TheVariants.{Ready, Pending}
use Rattle.pg_conn.proofs.StateLaws.{plainly_behind, plainly_calls, plainly_fits, plainly_over}
use Rattle.pg_conn.proofs.states.clear_cached_statements.ClearCachedStatements+L.poll.Goals as goal

pub invariant_of-self : goal.invariant_of-self
invariant_of-self g c = record { calling = plainly_behind c.args.self.now.request c.args.self.now.conn.now c.poll_with.new.self c.args.self.now.calling c.requires.over g.L.Link.seen c.poll_with.new.request c.poll_with.result c.poll_with.ensures.asked c.poll_with.ensures.polls }

pub into_unit-requires-clause-fits : goal.into_unit-requires-clause-fits
into_unit-requires-clause-fits g c = plainly_fits c.args.self.now.request c.args.self.now.conn.now c.poll_with.new.self c.args.self.now.calling c.requires.over c.in-Ready.turn c.in-Ready.ensures.fits

pub returns-in-Pending-clause-over : goal.returns-in-Pending-clause-over
returns-in-Pending-clause-over g c = plainly_over c.args.self.now.request c.args.self.now.conn.now c.poll_with.new.self c.args.self.now.calling c.requires.over g.L.Link.seen c.poll_with.new.request Pending c.in-Pending.ensures.asked c.in-Pending.ensures.polls

pub returns-in-Pending-clause-calling : goal.returns-in-Pending-clause-calling
returns-in-Pending-clause-calling g c = plainly_calls c.args.self.now.request c.args.self.now.conn.now c.poll_with.new.self c.args.self.now.calling c.requires.over g.L.Link.seen Pending c.in-Pending.ensures.polls

pub returns-in-Ready-clause-over : goal.returns-in-Ready-clause-over
returns-in-Ready-clause-over g c = rw (← c.into_unit.ensures) (plainly_over c.args.self.now.request c.args.self.now.conn.now c.poll_with.new.self c.args.self.now.calling c.requires.over g.L.Link.seen c.poll_with.new.request (Ready c.in-Ready.turn) c.in-Ready.ensures.asked c.in-Ready.ensures.polls)

pub returns-in-Ready-clause-calling : goal.returns-in-Ready-clause-calling
returns-in-Ready-clause-calling g c = rw (← c.into_unit.ensures) (plainly_calls c.args.self.now.request c.args.self.now.conn.now c.poll_with.new.self c.args.self.now.calling c.requires.over g.L.Link.seen (Ready c.in-Ready.turn) c.in-Ready.ensures.polls)
