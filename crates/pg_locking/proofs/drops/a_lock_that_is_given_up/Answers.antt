use Rattle.std.proofs.Common.{◌≡◌, Some, refl, subst, ap, ◌∙◌}
use Rattle.pg_conn.specs.Connections.{ConnOf}
use Rattle.pg_conn.specs.Holding.{took_held}
use Rattle.pg_locks.specs.declared.key.PgAdvisoryLockKey.{PgAdvisoryLockKey}
use Rattle.pg_locks.specs.Locks.{unlock_query}
use Rattle.pg_locking.specs.declared.lock_call.LockCall.{LockCall}
use Rattle.pg_locking.specs.Locking.{left_locking}
use Rattle.pg_locking.proofs.HeldLaws.{behind}
use Rattle.pg_locking.proofs.drops.a_lock_that_is_given_up.Goals as goal

pub returns-in-None : goal.returns-in-None
returns-in-None g c =
    let s = c.acquire-state.ensures in
    let p = c.in-Ready-Ok.ensures.polls c.args.conn s.conn in
    let k = (rw c.in-Ready-Ok.field-0-is at c.in-Ready-Ok.ensures.guards) ∙ ap (λ (call : LockCall). call.key) s.call in (
      g.C.PgExecutor.conn p.0,
      c.poll.new.self.call.stage,
      rw (s.call, c.in-Ready-Ok.field-0-is) at p.3,
      behind g.C.PgExecutor.conn g.C.PgExecutor.with_conn g.met.C.PgExecutor.overwritten (λ (w : ConnOf _). took_held (Some (unlock_query c.args.lock.now.key)) w) c.args.conn p.0 c.in-Ready-Ok.guard.conn _ p.2 (rw c.in-Ready-Ok.field-0-is at p.1).1
          (subst (λ (key : PgAdvisoryLockKey). c.into_conn-in-Ready-Ok.result ≡ g.C.PgExecutor.with_conn c.in-Ready-Ok.guard.conn (took_held (Some (unlock_query key)) (g.C.PgExecutor.conn c.in-Ready-Ok.guard.conn))) k c.into_conn-in-Ready-Ok.ensures),
    )

pub returns-in-Ready-Err : goal.returns-in-Ready-Err
returns-in-Ready-Err g c =
    let s = c.acquire-state.ensures in
    let p = c.in-Ready-Err.ensures.polls c.args.conn s.conn in
    let k = c.in-Ready-Err.ensures.key ∙ ap (λ (call : LockCall). call.key) s.call in (
      g.C.PgExecutor.conn p.0,
      c.poll.new.self.call.stage,
      rw (s.call, c.in-Ready-Err.field-0-is) at p.3,
      behind g.C.PgExecutor.conn g.C.PgExecutor.with_conn g.met.C.PgExecutor.overwritten (λ (w : ConnOf _). left_locking c.args.lock.now.key c.poll.new.self.call.stage w) c.args.conn p.0 p.0 _ p.2 refl
          (subst (λ (key : PgAdvisoryLockKey). c.held.result ≡ g.C.PgExecutor.with_conn p.0 (left_locking key c.poll.new.self.call.stage (g.C.PgExecutor.conn p.0))) k (c.held.ensures p.0 (rw c.in-Ready-Err.field-0-is at p.1))),
    )

pub returns-in-Pending : goal.returns-in-Pending
returns-in-Pending g c =
    let s = c.acquire-state.ensures in
    let p = c.in-Pending.ensures.polls c.args.conn s.conn in
    let k = c.in-Pending.ensures.key ∙ ap (λ (call : LockCall). call.key) s.call in (
      g.C.PgExecutor.conn p.0,
      c.poll.new.self.call.stage,
      rw s.call at p.3,
      behind g.C.PgExecutor.conn g.C.PgExecutor.with_conn g.met.C.PgExecutor.overwritten (λ (w : ConnOf _). left_locking c.args.lock.now.key c.poll.new.self.call.stage w) c.args.conn p.0 p.0 _ p.2 refl
          (subst (λ (key : PgAdvisoryLockKey). c.held-in-Pending.result ≡ g.C.PgExecutor.with_conn p.0 (left_locking key c.poll.new.self.call.stage (g.C.PgExecutor.conn p.0))) k (c.held-in-Pending.ensures p.0 p.1)),
    )
