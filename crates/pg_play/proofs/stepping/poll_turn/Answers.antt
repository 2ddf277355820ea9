use Rattle.pg_conn.specs.Connections.{seen_by}
use Rattle.pg_play.proofs.ThroughLaws.{poll_goes, poll_drops, poll_ok, poll_err, poll_item, poll_opened}
use Rattle.pg_play.proofs.stepping.poll_turn.Goals as goal

pub returns-then-tally-limits-clause-gives : goal.returns-then-tally-limits-clause-gives
returns-then-tally-limits-clause-gives g c a r i =
    poll_drops c.args.limits a (seen_by g.L.Link.seen c.args.conn.now) (seen_by g.L.Link.seen c.poll_call.new.self) r c.args.tally.now.waits c.args.tally.now.items.items c.if-tally-limits.true i c.in-Pending.ensures

pub returns-in-Pending-clause-gives : goal.returns-in-Pending-clause-gives
returns-in-Pending-clause-gives g c a r i =
    poll_goes c.args.limits a (seen_by g.L.Link.seen c.args.conn.now) (seen_by g.L.Link.seen c.poll_call.new.self) r c.args.tally.now.waits c.args.tally.now.items.items c.requires.waits i c.in-Pending.ensures

pub returns-in-Ready-Item-clause-gives : goal.returns-in-Ready-Item-clause-gives
returns-in-Ready-Item-clause-gives g c a r i =
    rw c.pause.ensures (poll_item c.args.limits a (seen_by g.L.Link.seen c.args.conn.now) (seen_by g.L.Link.seen c.poll_call.new.self) r c.args.tally.now c.add.new.self c.in-Ready-Item.item c.add.result c.requires.waits (rw c.item_of.ensures at c.add.ensures.adds) i (rw c.in-Ready-Item.field-0-is at c.in-Ready-Item.ensures))

pub returns-in-Ready-Ok-clause-gives : goal.returns-in-Ready-Ok-clause-gives
returns-in-Ready-Ok-clause-gives g c a r i =
    poll_ok c.args.limits a (seen_by g.L.Link.seen c.args.conn.now) (seen_by g.L.Link.seen c.poll_call.new.self) r c.args.tally.now c.finish.new.self c.in-Ready-Ok.answer c.finish.result c.requires.waits c.finish.ensures i (rw c.in-Ready-Ok.field-0-is at c.in-Ready-Ok.ensures)

pub returns-in-Ready-Err-clause-gives : goal.returns-in-Ready-Err-clause-gives
returns-in-Ready-Err-clause-gives g c a r i =
    poll_err c.args.limits a (seen_by g.L.Link.seen c.args.conn.now) (seen_by g.L.Link.seen c.poll_call.new.self) r c.args.tally.now.waits c.args.tally.now.items.items c.in-Ready-Err.e c.requires.waits i (rw c.in-Ready-Err.field-0-is at c.in-Ready-Err.ensures)

pub returns-clause-gives : goal.returns-clause-gives
returns-clause-gives g c a r i =
    poll_opened c.args.limits a (seen_by g.L.Link.seen c.args.conn.now) (seen_by g.L.Link.seen c.poll_call.new.self) r c.args.tally.now.waits c.args.tally.now.items.items _ c.requires.waits i (rw c.in-Ready-Opened.field-0-is at c.in-Ready-Opened.ensures)
