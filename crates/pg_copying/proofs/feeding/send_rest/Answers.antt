use Rattle.pg_conn.specs.Connections.{seen_by}
use Rattle.pg_copying.proofs.FeedLaws.{rest_behind, sends_fail, sends_more, sends_none, sends_starved, sends_wait, sends_whole}
use Rattle.pg_copying.proofs.feeding.send_rest.Goals as goal

pub loop-e-init : goal.loop-e-init
loop-e-init g c = sends_none (seen_by g.L.Link.seen c.args.conn.now) c.args.rest.now

pub loop-e-preserved : goal.loop-e-preserved
loop-e-preserved g c =
    let seen = g.L.Link.seen in
    sends_more seen (seen_by seen c.args.conn.now) c.loop-e.conn c.poll_fed_more.new.self c.queue_piece.new.conn c.args.rest.now c.loop-e.queued c.in-Ok.size tt c.loop-e.invariant (rw c.in-Ready-Ok.field-0-is at c.in-Ready-Ok.ensures) (rw (rest_behind c.loop-e.queued c.args.rest.now) at c.in-Ok.ensures.ok)

pub returns-in-Ready-Err : goal.returns-in-Ready-Err
returns-in-Ready-Err g c =
    let seen = g.L.Link.seen in
    sends_fail (seen_by seen c.args.conn.now) (seen_by seen c.loop-e.conn) (seen_by seen c.poll_fed_more.new.self) c.args.rest.now c.loop-e.queued c.in-Ready-Err.e c.loop-e.invariant (rw c.in-Ready-Err.field-0-is at c.in-Ready-Err.ensures)

pub returns-in-Pending : goal.returns-in-Pending
returns-in-Pending g c =
    let seen = g.L.Link.seen in
    sends_wait (seen_by seen c.args.conn.now) (seen_by seen c.loop-e.conn) (seen_by seen c.poll_fed_more.new.self) c.args.rest.now c.loop-e.queued c.loop-e.invariant c.in-Pending.ensures

pub returns-then-queued-rest : goal.returns-then-queued-rest
returns-then-queued-rest g c =
    let seen = g.L.Link.seen in
    sends_whole (seen_by seen c.args.conn.now) (seen_by seen c.loop-e.conn) (seen_by seen c.poll_fed_more.new.self) c.args.rest.now c.loop-e.queued tt c.if-queued-rest.true c.loop-e.invariant (rw c.in-Ready-Ok.field-0-is at c.in-Ready-Ok.ensures)

pub returns-in-Err : goal.returns-in-Err
returns-in-Err g c =
    let seen = g.L.Link.seen in
    rw (c.in-Err.ensures.err, c.in-Err.ensures.cause)
    (sends_starved (seen_by seen c.args.conn.now) (seen_by seen c.loop-e.conn) (seen_by seen c.poll_fed_more.new.self) c.args.rest.now c.loop-e.queued tt c.loop-e.invariant (rw c.in-Ready-Ok.field-0-is at c.in-Ready-Ok.ensures))
