use Rattle.std.proofs.Common.{subst, sym, true}
use Rattle.pg_migrating.specs.Locks.{StandsLock}
use Rattle.pg_migrating.specs.declared.lock.LockWay.{LockWay}
use Rattle.pg_migrating.proofs.LockLaws.{lock_told, names_first}
use Rattle.pg_migrating.proofs.lock.MigrationLock+C.poll.Goals as goal

pub returns-in-None-clause-tells : goal.returns-in-None-clause-tells
returns-in-None-clause-tells g c first s =
    let a = c.args.self.now in
    let b = c.poll_name.new.self in
    let d = c.poll_lock-in-None.new.self in
    let named = c.in-None.ensures.tells first (names_first g.C.L.Link.seen a.way first (g.C.PgExecutor.conn a.asking.conn) a.is_named a.asking.question c.if-self.false s) in
    let asked = subst (λ (x : LockWay). StandsLock g.C.L.Link.seen x first true b.asking.question (g.C.PgExecutor.conn b.asking.conn)) (sym c.in-None.ensures.way) named in
    lock_told g.C.L.Link.seen b.way a.way first (g.C.PgExecutor.conn d.asking.conn) d.is_named c.poll_lock-in-None.result c.in-None.ensures.way c.poll_lock-in-None.ensures.named (c.poll_lock-in-None.ensures.tells first asked)
