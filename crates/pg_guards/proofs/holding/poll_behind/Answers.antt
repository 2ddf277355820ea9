use Rattle.std.proofs.Common.{subst}
use Rattle.pg_conn.specs.Connections.{ConnOf, seen_by, started_next}
use Rattle.pg_conn.specs.Turns.{PollsMore}
use Rattle.pg_conn.proofs.StateLaws.{more_fits}
use Rattle.pg_guards.proofs.holding.poll_behind.Goals as goal

pub returns-clause-polls : goal.returns-clause-polls
returns-clause-polls g c = subst (λ (conn : ConnOf _). PollsMore (seen_by g.L.Link.seen conn) (seen_by g.L.Link.seen c.poll_more.new.self) c.poll_more.result) c.start_next.ensures c.poll_more.ensures

pub returns-clause-fits : goal.returns-clause-fits
returns-clause-fits g c kind calling = more_fits g.L.Link.seen (started_next c.args.request c.args.conn.now) c.poll_more.new.self kind c.poll_more.result
    (subst (λ (conn : ConnOf _). PollsMore (seen_by g.L.Link.seen conn) (seen_by g.L.Link.seen c.poll_more.new.self) c.poll_more.result) c.start_next.ensures c.poll_more.ensures) calling
