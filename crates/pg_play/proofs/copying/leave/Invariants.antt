use Rattle.std.proofs.Common.{◌<◌, ◌-◌}
use Rattle.pg_script.specs.declared.step.Copying.{Copying}
use Rattle.pg_conn.specs.Connections.{ConnSeen, seen_by}
use Rattle.pg_play.specs.Opened.{IsFed, of_step}
use Rattle.pg_play.proofs.copying.leave.Given as goal

abbrev pub invariant-loop-conn : goal.invariant-loop-conn
invariant-loop-conn g l = record {
  fed : (copying : Copying) (old : ConnSeen) → IsFed (of_step l.fn.step) copying old (seen_by g.L.Link.seen l.fn.conn) l.fn.tally.waits l.fn.tally.items.items → IsFed (of_step l.fn.step) copying old (seen_by g.L.Link.seen l.conn) l.tally.waits l.tally.items.items;
  some : l.tally.waits < l.fn.step.polls;
}

abbrev pub decreases-loop-conn : goal.decreases-loop-conn
decreases-loop-conn g l = l.fn.step.polls - l.tally.waits
