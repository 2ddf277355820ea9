use Rattle.pg_conn.specs.Connections.{seen_by}
use Rattle.pg_play.proofs.LockLaws.{locks_nothing}
use Rattle.pg_play.proofs.locking.lock.Goals as goal

pub returns-then-not-has_room-clause-plays : goal.returns-then-not-has_room-clause-plays
returns-then-not-has_room-clause-plays g c = locks_nothing (seen_by g.L.Link.seen c.args.conn.now) c.args.step.now c.args.key c.unprepared.result c.unprepared.ensures.unmade c.unprepared.ensures.counts
