use Rattle.futures.specs.declared.task.Poll.TheVariants.{Ready, Pending}
use Rattle.pg_conn.proofs.StateLaws.{mapped_plainly, own_plainly, plainly_behind, plainly_calls, plainly_fits, plainly_over}
use Rattle.pg_guards.proofs.holding.poll_unit.Goals as goal

pub into_unit-requires-clause-fits : goal.into_unit-requires-clause-fits
into_unit-requires-clause-fits g c =
    plainly_fits c.args.request.now c.args.conn.now c.poll_with.new.self (mapped_plainly c.args.request.now c.args.conn.now c.requires.calling) c.requires.over c.in-Ready.turn c.in-Ready.ensures.fits

pub returns-in-Pending-clause-over : goal.returns-in-Pending-clause-over
returns-in-Pending-clause-over g c =
    plainly_over c.args.request.now c.args.conn.now c.poll_with.new.self (mapped_plainly c.args.request.now c.args.conn.now c.requires.calling) c.requires.over g.L.Link.seen c.poll_with.new.request Pending c.in-Pending.ensures.asked c.in-Pending.ensures.polls

pub returns-in-Pending-clause-keeps : goal.returns-in-Pending-clause-keeps
returns-in-Pending-clause-keeps g c =
    own_plainly c.poll_with.new.request c.poll_with.new.self (plainly_behind c.args.request.now c.args.conn.now c.poll_with.new.self (mapped_plainly c.args.request.now c.args.conn.now c.requires.calling) c.requires.over g.L.Link.seen c.poll_with.new.request Pending c.in-Pending.ensures.asked c.in-Pending.ensures.polls)

pub returns-in-Pending-clause-calling : goal.returns-in-Pending-clause-calling
returns-in-Pending-clause-calling g c i = (i.0, i.1, c.in-Pending.ensures.fits i.0 i.2)

pub returns-in-Ready-clause-over : goal.returns-in-Ready-clause-over
returns-in-Ready-clause-over g c =
    rw (← c.into_unit.ensures) (plainly_over c.args.request.now c.args.conn.now c.poll_with.new.self (mapped_plainly c.args.request.now c.args.conn.now c.requires.calling) c.requires.over g.L.Link.seen c.poll_with.new.request (Ready c.in-Ready.turn) c.in-Ready.ensures.asked c.in-Ready.ensures.polls)

pub returns-in-Ready-clause-keeps : goal.returns-in-Ready-clause-keeps
returns-in-Ready-clause-keeps g c =
    own_plainly c.poll_with.new.request c.poll_with.new.self (plainly_behind c.args.request.now c.args.conn.now c.poll_with.new.self (mapped_plainly c.args.request.now c.args.conn.now c.requires.calling) c.requires.over g.L.Link.seen c.poll_with.new.request (Ready c.in-Ready.turn) c.in-Ready.ensures.asked c.in-Ready.ensures.polls)

pub returns-in-Ready-clause-calling : goal.returns-in-Ready-clause-calling
returns-in-Ready-clause-calling g c i = rw (← c.into_unit.ensures) (i.0, i.1, c.in-Ready.ensures.fits i.0 i.2)
