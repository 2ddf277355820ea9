use Rattle.std.proofs.Common.{sym, ◌∙◌}
use Rattle.pg_conn.specs.Connections.{seen_by}
use Rattle.pg_play.proofs.ThroughLaws.{playing_runs}
use Rattle.pg_play.proofs.stepping.poll_once.Goals as goal

pub poll_turn-requires-clause-runs : goal.poll_turn-requires-clause-runs
poll_turn-requires-clause-runs g c =
    let p = c.requires.playing in
    playing_runs c.args.limits p.0 (seen_by g.L.Link.seen c.tell_rows.new.conn) p.1 c.tell_rows.new.tally.waits c.tell_rows.new.tally.items.items (rw (sym c.pause.ensures ∙ c.in-None.is) at c.tell_rows.ensures.gives p.0 p.1 p.2)

pub returns-in-None-clause-gives : goal.returns-in-None-clause-gives
returns-in-None-clause-gives g c a r i = c.poll_turn.ensures.gives a r (rw (sym c.pause.ensures ∙ c.in-None.is) at c.tell_rows.ensures.gives a r i)

pub returns-in_default-clause-gives : goal.returns-in_default-clause-gives
returns-in_default-clause-gives g c a r i = rw c.pause.ensures (c.tell_rows.ensures.gives a r i)
