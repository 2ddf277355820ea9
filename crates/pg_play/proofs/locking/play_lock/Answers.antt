use Rattle.std.proofs.Common.{subst, sym, ◌∙◌}
use Rattle.pg_conn.specs.Connections.{ConnSeen, seen_by}
use Rattle.pg_script.specs.declared.step.Step.{Step}
use Rattle.pg_play.specs.Calls.{PlaysStep}
use Rattle.pg_play.proofs.LockLaws.{locks_nothing, locks_alone, locks_both, locks_released, locking_is}
use Rattle.pg_play.proofs.locking.play_lock.Goals as goal

pub returns-in_default-clause-plays : goal.returns-in_default-clause-plays
returns-in_default-clause-plays g c = locks_nothing (seen_by g.L.Link.seen c.args.conn.now) c.args.step.now c.args.key c.unprepared.result c.unprepared.ensures.unmade c.unprepared.ensures.counts

pub returns-then-not-is_fine-clause-plays : goal.returns-then-not-is_fine-clause-plays
returns-then-not-is_fine-clause-plays g c =
    let a : ConnSeen = seen_by g.L.Link.seen c.args.conn.now in
    let b : ConnSeen = seen_by g.L.Link.seen c.play_step-told.new.conn in
    locks_alone a b c.args.step.now c.args.key c.play_step-told.result (subst (λ (s : Step). PlaysStep a b s c.play_step-told.result) c.in-Some.ensures.0 c.play_step-told.ensures.plays) c.play_step-told.ensures.counts (sym c.is_fine.ensures ∙ c.if-not-is_fine.true)

pub returns-else-is_due-clause-plays : goal.returns-else-is_due-clause-plays
returns-else-is_due-clause-plays g c =
    let a : ConnSeen = seen_by g.L.Link.seen c.args.conn.now in
    let m : ConnSeen = seen_by g.L.Link.seen c.play_step-told.new.conn in
    let b : ConnSeen = seen_by g.L.Link.seen c.play_step-later.new.conn in
    rw c.told_locked.ensures (locks_both a m b c.args.step.now c.args.key c.play_step-told.result c.play_step-later.result
    (subst (λ (s : Step). PlaysStep a m s c.play_step-told.result) c.in-Some.ensures.0 c.play_step-told.ensures.plays) c.play_step-told.ensures.counts (sym c.is_fine.ensures ∙ c.if-not-is_fine.false)
    (subst (λ (s : Step). PlaysStep m b s c.play_step-later.result) (c.locking-second.ensures ∙ locking_is c.args.step.now c.play_step-told.result.waits c.args.key c.in-Some.query c.in-Some.ensures.1) c.play_step-later.ensures.plays) c.play_step-later.ensures.counts
    (sym c.is_due.ensures ∙ c.if-is_due.false))

pub returns-then-is_due-clause-plays : goal.returns-then-is_due-clause-plays
returns-then-is_due-clause-plays g c =
    let a : ConnSeen = seen_by g.L.Link.seen c.args.conn.now in
    let m : ConnSeen = seen_by g.L.Link.seen c.play_step-told.new.conn in
    let n : ConnSeen = seen_by g.L.Link.seen c.play_step-later.new.conn in
    let b : ConnSeen = seen_by g.L.Link.seen c.release-act.new.conn in
    rw c.told_released.ensures (locks_released a m n b c.args.step.now c.args.key c.play_step-told.result c.play_step-later.result c.release-act.result
    (subst (λ (s : Step). PlaysStep a m s c.play_step-told.result) c.in-Some.ensures.0 c.play_step-told.ensures.plays) c.play_step-told.ensures.counts (sym c.is_fine.ensures ∙ c.if-not-is_fine.false)
    (subst (λ (s : Step). PlaysStep m n s c.play_step-later.result) (c.locking-second.ensures ∙ locking_is c.args.step.now c.play_step-told.result.waits c.args.key c.in-Some.query c.in-Some.ensures.1) c.play_step-later.ensures.plays) c.play_step-later.ensures.counts
    (sym c.is_due.ensures ∙ c.if-is_due.true) (c.release-act.ensures.plays c.args.step.now) c.release-act.ensures.counts)
