use Rattle.std.proofs.Common.{◌≡◌, false}
use Rattle.pg_stream.specs.Links.{LinkSeen}
use Rattle.pg_startup.specs.Establishing.{IsKept, establish_by}
use Rattle.pg_play.specs.Starts.{Opening, IsPending, KeepsAsMany}
use Rattle.pg_play.proofs.starting.poll_start.Given as goal

abbrev pub invariant-loop : goal.invariant-loop
invariant-loop g l = record {
  goes : l.establish.startup.is_finished ≡ false;
  kept : IsKept l.establish.startup.phase;
  capacity : l.establish.capacity ≡ l.fn.establish.capacity;
  pends : (opening : Opening) (first last : LinkSeen) → KeepsAsMany opening l.fn.establish → IsPending opening first last 0 (establish_by g.L.Link.seen l.fn.establish.startup) → (now : LinkSeen) × IsPending opening first now l.counter (establish_by g.L.Link.seen l.establish.startup);
}
