use Rattle.std.proofs.Common.{◌≡◌, ◌≤◌, length, take, vec_capacity}
use Rattle.pg_conn.specs.Connections.{seen_by}
use Rattle.pg_play.specs.Plays.{PlaysAll}
use Rattle.pg_play.proofs.playing.play_steps.Given as goal

-- each step so far has its outcome and was played, there is room for the others, and for the release of each lock that is held
abbrev pub invariant-loop-step : goal.invariant-loop-step
invariant-loop-step g l = record {
  count : length l.outcomes.items ≡ l.step-index;
  room : length l.fn.steps ≤ vec_capacity l.outcomes;
  held : length l.guards.items ≤ l.conn.held;
  plays : PlaysAll (seen_by g.L.Link.seen l.initial.conn) (seen_by g.L.Link.seen l.conn) (take l.step-index l.fn.steps) l.outcomes.items l.guards.items;
}
