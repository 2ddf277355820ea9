use Rattle.pg_play.proofs.StartLaws.{pending_first, begins_kept, begins_open}
use Rattle.pg_play.proofs.starting.start_up.Goals as goal

pub poll_start-requires-clause-goes : goal.poll_start-requires-clause-goes
poll_start-requires-clause-goes g c = begins_open c.args.options.now c.args.nonce.now (g.L.Link.seen c.args.link).plan c.args.link c.in-Ok.establish.startup c.in-Ok.ensures.ok

pub poll_start-requires-clause-kept : goal.poll_start-requires-clause-kept
poll_start-requires-clause-kept g c = begins_kept c.args.options.now c.args.nonce.now (g.L.Link.seen c.args.link).plan c.args.link c.in-Ok.establish.startup c.in-Ok.ensures.ok

pub returns-in-Ok : goal.returns-in-Ok
returns-in-Ok g c = c.poll_start.ensures _ (g.L.Link.seen c.args.link) (g.L.Link.seen c.args.link) c.in-Ok.ensures.capacity (pending_first g.L.Link.seen _ c.args.link c.in-Ok.establish.startup c.in-Ok.ensures.ok)
