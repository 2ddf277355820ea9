use Rattle.pg_conn.specs.Connections.{seen_by}
use Rattle.pg_locks.specs.Locks.{try_lock_statement}
use Rattle.pg_play.proofs.LockLaws.{asks_nothing}
use Rattle.pg_play.proofs.locking.try_lock.Goals as goal

pub returns-then-not-has_room-clause-plays : goal.returns-then-not-has_room-clause-plays
returns-then-not-has_room-clause-plays g c = asks_nothing (seen_by g.L.Link.seen c.args.conn.now) c.args.step.now (try_lock_statement c.args.key) c.args.key c.unprepared.result c.unprepared.ensures.unmade c.unprepared.ensures.counts

pub returns-else-is_had-clause-plays : goal.returns-else-is_had-clause-plays
returns-else-is_had-clause-plays g c = rw (← c.try_lock_statement.ensures.text) c.ask-told.ensures.plays
