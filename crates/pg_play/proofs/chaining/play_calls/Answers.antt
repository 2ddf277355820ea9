use Rattle.std.proofs.Common.{refl}
use Rattle.pg_conn.specs.Connections.{ConnSeen, seen_by}
use Rattle.pg_locks.specs.Locks.{try_lock_statement, unlock_statement}
use Rattle.pg_script.specs.declared.step.Chain.TheVariants as chains
use Rattle.pg_play.specs.Chains.{IsCopied, IsDescribed}
use Rattle.pg_play.specs.Locks.{IsAsked, IsLocked, guards_behind}
use Rattle.pg_play.proofs.LockLaws.{chained_by, with_guards}
use Rattle.pg_play.proofs.chaining.play_calls.Goals as goal

pub returns-in-Describe-clause-plays : goal.returns-in-Describe-clause-plays
returns-in-Describe-clause-plays g c =
    let a : ConnSeen = seen_by g.L.Link.seen c.args.conn.now in
    let b : ConnSeen = seen_by g.L.Link.seen c.describe.new.conn in
    chained_by a b c.args.chain.now (chains.Describe c.in-Describe.sql) c.args.guards.now.items c.args.guards.now.items c.args.step.now c.describe.result c.in-Describe.is
    (with_guards a b (IsDescribed c.args.step.now c.in-Describe.sql c.describe.result) c.args.guards.now.items c.args.guards.now.items refl c.describe.ensures.plays)

pub returns-in-CopyIn-clause-plays : goal.returns-in-CopyIn-clause-plays
returns-in-CopyIn-clause-plays g c =
    let a : ConnSeen = seen_by g.L.Link.seen c.args.conn.now in
    let b : ConnSeen = seen_by g.L.Link.seen c.copy_in.new.conn in
    chained_by a b c.args.chain.now (chains.CopyIn c.in-CopyIn.copying) c.args.guards.now.items c.args.guards.now.items c.args.step.now c.copy_in.result c.in-CopyIn.is
    (with_guards a b (IsCopied c.args.step.now c.in-CopyIn.copying c.copy_in.result) c.args.guards.now.items c.args.guards.now.items refl (rw (← c.get.ensures) c.copy_in.ensures.plays))

pub returns-in-Lock-clause-plays : goal.returns-in-Lock-clause-plays
returns-in-Lock-clause-plays g c =
    let a : ConnSeen = seen_by g.L.Link.seen c.args.conn.now in
    let b : ConnSeen = seen_by g.L.Link.seen c.lock.new.conn in
    chained_by a b c.args.chain.now (chains.Lock c.in-Lock.key) c.lock.new.guards.items c.args.guards.now.items c.args.step.now c.lock.result c.in-Lock.is
    (with_guards a b (IsLocked c.args.step.now c.in-Lock.key c.lock.result) c.lock.new.guards.items (guards_behind c.in-Lock.key c.args.guards.now.items c.lock.result.end) c.lock.ensures.guards c.lock.ensures.plays)

pub returns-in-TryLock-clause-plays : goal.returns-in-TryLock-clause-plays
returns-in-TryLock-clause-plays g c =
    let a : ConnSeen = seen_by g.L.Link.seen c.args.conn.now in
    let b : ConnSeen = seen_by g.L.Link.seen c.try_lock.new.conn in
    chained_by a b c.args.chain.now (chains.TryLock c.in-TryLock.key) c.try_lock.new.guards.items c.args.guards.now.items c.args.step.now c.try_lock.result c.in-TryLock.is
    (with_guards a b (IsAsked c.args.step.now (try_lock_statement c.in-TryLock.key) c.in-TryLock.key c.try_lock.result) c.try_lock.new.guards.items (guards_behind c.in-TryLock.key c.args.guards.now.items c.try_lock.result.end) c.try_lock.ensures.guards c.try_lock.ensures.plays)

pub returns-in-Unlock-clause-plays : goal.returns-in-Unlock-clause-plays
returns-in-Unlock-clause-plays g c =
    let a : ConnSeen = seen_by g.L.Link.seen c.args.conn.now in
    let b : ConnSeen = seen_by g.L.Link.seen c.ask.new.conn in
    chained_by a b c.args.chain.now (chains.Unlock c.in-Unlock.key) c.args.guards.now.items c.args.guards.now.items c.args.step.now c.ask.result c.in-Unlock.is
    (with_guards a b (IsAsked c.args.step.now (unlock_statement c.in-Unlock.key) c.in-Unlock.key c.ask.result) c.args.guards.now.items c.args.guards.now.items refl (rw (← c.unlock_statement.ensures.text) c.ask.ensures.plays))

pub returns-in-DropLock-clause-plays : goal.returns-in-DropLock-clause-plays
returns-in-DropLock-clause-plays g c =
    let a : ConnSeen = seen_by g.L.Link.seen c.args.conn.now in
    let b : ConnSeen = seen_by g.L.Link.seen c.drop_lock.new.conn in
    chained_by a b c.args.chain.now (chains.DropLock c.in-DropLock.key) c.drop_lock.new.guards.items c.args.guards.now.items c.args.step.now c.drop_lock.result c.in-DropLock.is c.drop_lock.ensures.plays
