use Rattle.std.proofs.Common.{refl}
use Rattle.pg_guards.proofs.HolderLaws.{left_behind, rolled_behind}
use Rattle.pg_guards.proofs.drops.a_transaction_that_is_given_up.Goals as goal

pub returns-in-None : goal.returns-in-None
returns-in-None g c =
    let s = c.begin-state.ensures in
    let p = c.in-Ready-Ok.ensures.polls c.args.conn s.conn (rw s.request refl) in
    (g.C.PgExecutor.conn p.0, rw (s.request, c.in-Ready-Ok.field-0-is) at p.3, rolled_behind g.C.PgExecutor.conn g.C.PgExecutor.with_conn g.met.C.PgExecutor.overwritten c.args.conn p.0 c.in-Ready-Ok.guard.conn _ p.2 (rw c.in-Ready-Ok.field-0-is at p.1).1 c.into_conn-in-Ready-Ok.ensures)

pub returns-in-Ready-Err : goal.returns-in-Ready-Err
returns-in-Ready-Err g c =
    let s = c.begin-state.ensures in
    let p = c.in-Ready-Err.ensures.polls c.args.conn s.conn (rw s.request refl) in
    let q = c.in-Ready-Err.ensures.asked c.args.conn s.conn (rw s.request refl) in
    (g.C.PgExecutor.conn p.0, rw (s.request, c.in-Ready-Err.field-0-is) at p.3, left_behind g.C.PgExecutor.conn g.C.PgExecutor.with_conn g.met.C.PgExecutor.overwritten c.args.conn p.0 _ c.poll.new.self.request p.2 q.0 (c.held.ensures p.0 (rw c.in-Ready-Err.field-0-is at p.1)))

pub returns-in-Pending : goal.returns-in-Pending
returns-in-Pending g c =
    let s = c.begin-state.ensures in
    let p = c.in-Pending.ensures.polls c.args.conn s.conn (rw s.request refl) in
    let q = c.in-Pending.ensures.asked c.args.conn s.conn (rw s.request refl) in
    (g.C.PgExecutor.conn p.0, rw s.request at p.3, left_behind g.C.PgExecutor.conn g.C.PgExecutor.with_conn g.met.C.PgExecutor.overwritten c.args.conn p.0 _ c.poll.new.self.request p.2 q.0 (c.held-in-Pending.ensures p.0 p.1))
