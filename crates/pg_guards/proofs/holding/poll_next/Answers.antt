use Rattle.std.proofs.Common.{subst, sym}
use Rattle.pg_conn.specs.Connections.{ConnOf, seen_by, started_next}
use Rattle.pg_conn.specs.States.{IsCalling, PollFits}
use Rattle.pg_conn.specs.Turns.{PollsMore}
use Rattle.pg_guards.proofs.holding.poll_next.Goals as goal

pub returns-clause-polls : goal.returns-clause-polls
returns-clause-polls g c =
    subst (λ (b : ConnOf _). PollsMore (seen_by g.C.L.Link.seen (started_next c.args.request (g.C.PgExecutor.conn c.args.holder.now))) (seen_by g.C.L.Link.seen b) c.poll_behind.result) (sym (g.met.C.PgExecutor.written c.args.holder.now c.poll_behind.new.conn))
    (subst (λ (a : ConnOf _). PollsMore (seen_by g.C.L.Link.seen (started_next c.args.request a)) (seen_by g.C.L.Link.seen c.poll_behind.new.conn) c.poll_behind.result) c.conn_mut.ensures.value c.poll_behind.ensures.polls)

pub returns-clause-fits : goal.returns-clause-fits
returns-clause-fits g c kind calling =
    subst (λ (conn : ConnOf _). PollFits kind conn c.poll_behind.result) (sym (g.met.C.PgExecutor.written c.args.holder.now c.poll_behind.new.conn))
    (c.poll_behind.ensures.fits kind (subst (λ (conn : ConnOf _). IsCalling kind (started_next c.args.request conn)) (sym c.conn_mut.ensures.value) calling))
