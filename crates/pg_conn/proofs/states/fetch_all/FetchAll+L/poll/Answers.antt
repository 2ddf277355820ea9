use Rattle.futures.specs.declared.task.Poll.TheVariants.{Ready, Pending}
use Rattle.pg_call.specs.declared.kind.How.TheVariants as hows
use Rattle.pg_call.specs.declared.kind.Kind.TheVariants as kinds
use Rattle.pg_conn.proofs.StateLaws.{kept_behind, kept_fits, kept_over}
use Rattle.pg_conn.proofs.states.fetch_all.FetchAll+L.poll.Goals as goal

pub invariant_of-self : goal.invariant_of-self
invariant_of-self g c = record { calling = kept_behind (kinds.Run hows.FetchAll) c.args.self.now.request c.args.self.now.conn.now c.poll_with.new.self c.args.self.now.calling c.requires.over g.L.Link.seen c.poll_with.new.request c.poll_with.result c.poll_with.ensures.asked c.poll_with.ensures.polls }

pub into_rows-requires : goal.into_rows-requires
into_rows-requires g c = kept_fits (kinds.Run hows.FetchAll) c.args.self.now.request c.args.self.now.conn.now c.poll_with.new.self c.args.self.now.calling c.requires.over c.in-Ready.turn (c.in-Ready.ensures.fits (kinds.Run hows.FetchAll))

pub returns-in-Pending-clause-over : goal.returns-in-Pending-clause-over
returns-in-Pending-clause-over g c = kept_over (kinds.Run hows.FetchAll) c.args.self.now.request c.args.self.now.conn.now c.poll_with.new.self c.args.self.now.calling c.requires.over g.L.Link.seen c.poll_with.new.request Pending c.in-Pending.ensures.asked c.in-Pending.ensures.polls

pub returns-in-Ready-clause-over : goal.returns-in-Ready-clause-over
returns-in-Ready-clause-over g c = rw (← c.into_rows.ensures) (kept_over (kinds.Run hows.FetchAll) c.args.self.now.request c.args.self.now.conn.now c.poll_with.new.self c.args.self.now.calling c.requires.over g.L.Link.seen c.poll_with.new.request (Ready c.in-Ready.turn) c.in-Ready.ensures.asked c.in-Ready.ensures.polls)
