use Rattle.std.proofs.Common.{ap, ◌∙◌, arith, rules, tests}
use Rattle.pg_conn.specs.Connections.{ConnSeen, seen_by}
use Rattle.pg_script.specs.declared.step.Copying.{Copying}
use Rattle.pg_play.specs.Feeding.{parts_of}
use Rattle.pg_play.specs.Opened.{IsFed, of_step}
use Rattle.pg_conn.proofs.ViewLaws.{seen_left}
use Rattle.pg_play.proofs.PartingLaws.{leave_drops, leave_ends, leave_fails, leave_waits}
use Rattle.pg_play.proofs.copying.leave.Goals as goal

pub returns-in-Ready-Ok : goal.returns-in-Ready-Ok
returns-in-Ready-Ok g c copying old polled end fed =
    rw c.with_end.ensures (leave_ends c.args.step.now copying old (seen_by g.L.Link.seen c.loop-conn.conn) (seen_by g.L.Link.seen c.poll_fed.new.self) (seen_by g.L.Link.seen c.stop-told.new.conn) c.loop-conn.tally.waits c.loop-conn.tally.items.items c.in-Ready-Ok.field-0-0 c.stop-told.result polled end c.loop-conn.invariant.some
    (c.loop-conn.invariant.fed copying old fed) (rw c.in-Ready-Ok.field-0-is at c.in-Ready-Ok.ensures) (ap (seen_by g.L.Link.seen) c.stop-told.ensures.left ∙ seen_left g.L.Link.seen c.poll_fed.new.self) c.stop-told.ensures.tells)

pub returns-in-Ready-Err : goal.returns-in-Ready-Err
returns-in-Ready-Err g c copying old polled end fed =
    leave_fails c.args.step.now copying old (seen_by g.L.Link.seen c.loop-conn.conn) (seen_by g.L.Link.seen c.poll_fed.new.self) (seen_by g.L.Link.seen c.stop.new.conn) c.loop-conn.tally.waits c.loop-conn.tally.items.items c.in-Ready-Err.e c.stop.result polled c.loop-conn.invariant.some
    (c.loop-conn.invariant.fed copying old fed) (rw c.in-Ready-Err.field-0-is at c.in-Ready-Err.ensures) (ap (seen_by g.L.Link.seen) c.stop.ensures.left ∙ seen_left g.L.Link.seen c.poll_fed.new.self) (rw c.in-Ready-Err.e-is at c.stop.ensures.tells)

pub returns-then-tally-limits : goal.returns-then-tally-limits
returns-then-tally-limits g c copying old polled end fed =
    leave_drops c.args.step.now copying old (seen_by g.L.Link.seen c.loop-conn.conn) (seen_by g.L.Link.seen c.poll_fed.new.self) (seen_by g.L.Link.seen c.stop-then-tally-limits.new.conn) c.loop-conn.tally.waits c.loop-conn.tally.items.items c.stop-then-tally-limits.result polled (rw c.limits_of-limits.ensures at c.if-tally-limits.true)
    (c.loop-conn.invariant.fed copying old fed) c.in-Pending.ensures (ap (seen_by g.L.Link.seen) c.stop-then-tally-limits.ensures.left ∙ seen_left g.L.Link.seen c.poll_fed.new.self) c.stop-then-tally-limits.ensures.tells

pub loop-conn-preserved : goal.loop-conn-preserved
loop-conn-preserved g c = record {
  fed = λ (copying : Copying) (old : ConnSeen) (p : IsFed (of_step c.args.step.now) copying old (seen_by g.L.Link.seen c.args.conn.now) c.args.tally.waits c.args.tally.items.items). leave_waits (of_step c.args.step.now) copying (parts_of copying) old (seen_by g.L.Link.seen c.loop-conn.conn) (seen_by g.L.Link.seen c.poll_fed.new.self) c.loop-conn.tally.waits c.loop-conn.tally.items.items (c.loop-conn.invariant.fed copying old p) c.in-Pending.ensures;
  some = omega (arith, c.loop-conn.invariant.some, rw c.limits_of-limits.ensures at c.if-tally-limits.false);
}
