use Rattle.std.proofs.Common.{◌≡◌, ◌-◌, ◌^◌, ◌≤◌, length}
use Rattle.pg_call.specs.declared.request.Request.{Request}
use Rattle.pg_conn.specs.Connections.{ConnSeen, seen_by}
use Rattle.pg_play.specs.Calls.{IsCallPlaying}
use Rattle.pg_play.proofs.stepping.tell_rows.Given as goal

abbrev pub invariant-loop-row : goal.invariant-loop-row
invariant-loop-row g l = record {
  playing : (a : ConnSeen) (r : Request) → IsCallPlaying l.fn.limits a (seen_by g.L.Link.seen l.fn.conn) r l.fn.tally.waits l.fn.tally.items.items → IsCallPlaying l.fn.limits a (seen_by g.L.Link.seen l.conn) r l.tally.waits l.tally.items.items;
  waits : l.tally.waits ≡ l.fn.tally.waits;
  more : (2 ^ 64 - length l.tally.items.items) ≤ (2 ^ 64 - length l.fn.tally.items.items);
}

abbrev pub decreases-loop-row : goal.decreases-loop-row
decreases-loop-row g l = 2 ^ 64 - length l.tally.items.items
