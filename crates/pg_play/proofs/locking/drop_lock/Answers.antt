use Rattle.pg_conn.specs.Connections.{seen_by}
use Rattle.pg_play.proofs.LockLaws.{gives_first, gives_none}
use Rattle.pg_play.proofs.locking.drop_lock.Goals as goal

pub returns-in-None-clause-plays : goal.returns-in-None-clause-plays
returns-in-None-clause-plays g c = gives_none (seen_by g.L.Link.seen c.args.conn.now) c.args.step.now c.args.key c.args.guards.now.items c.untouched.result (rw c.deref.ensures.value at c.in-None.ensures) c.untouched.ensures

pub returns-in-Some-clause-plays : goal.returns-in-Some-clause-plays
returns-in-Some-clause-plays g c =
    rw (c.remove.ensures.by_index.2) (gives_first (seen_by g.L.Link.seen c.args.conn.now) (seen_by g.L.Link.seen c.release.new.conn) c.args.step.now c.args.key c.args.guards.now.items c.in-Some.index c.release.result (rw c.deref.ensures.value at c.in-Some.ensures) (c.release.ensures.plays c.args.step.now) c.release.ensures.counts)
