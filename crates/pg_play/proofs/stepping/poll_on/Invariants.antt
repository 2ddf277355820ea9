use Rattle.std.proofs.Common.{◌<◌, ◌+◌, ◌-◌, ◌^◌, length}
use Rattle.pg_call.specs.declared.request.Request.{Request}
use Rattle.pg_conn.specs.Connections.{ConnSeen, seen_by}
use Rattle.pg_play.specs.Calls.{IsCallPlaying}
use Rattle.pg_play.proofs.stepping.poll_on.Given as goal

abbrev pub invariant-loop-pause : goal.invariant-loop-pause
invariant-loop-pause g l = record {
  playing : (a : ConnSeen) (r : Request) → IsCallPlaying l.fn.limits a (seen_by g.L.Link.seen l.fn.conn) r l.fn.tally.waits l.fn.tally.items.items → IsCallPlaying l.fn.limits a (seen_by g.L.Link.seen l.conn) r l.tally.waits l.tally.items.items;
  some : l.tally.waits < l.fn.limits.polls;
}

abbrev pub decreases-loop-pause : goal.decreases-loop-pause
decreases-loop-pause g l = (l.fn.limits.polls - l.tally.waits) + (2 ^ 64 - length l.tally.items.items)
