use Rattle.std.proofs.Common.{subst}
use Rattle.pg_conn.specs.Connections.{ConnSeen, seen_by}
use Rattle.pg_script.specs.declared.step.Step.{Step}
use Rattle.pg_play.specs.Calls.{PlaysStep}
use Rattle.pg_play.proofs.ChainLaws.{describes_nothing, describes_alone, describes_too_many, describes_both}
use Rattle.pg_play.proofs.chaining.describe.Goals as goal

pub returns-in_default-clause-plays : goal.returns-in_default-clause-plays
returns-in_default-clause-plays g c = describes_nothing (seen_by g.L.Link.seen c.args.conn.now) c.args.step.now c.args.sql.now c.unprepared.result c.unprepared.ensures.unmade c.unprepared.ensures.counts

pub returns-in-Ok-None-clause-plays : goal.returns-in-Ok-None-clause-plays
returns-in-Ok-None-clause-plays g c =
    let a : ConnSeen = seen_by g.L.Link.seen c.args.conn.now in
    let b : ConnSeen = seen_by g.L.Link.seen c.play_step-told.new.conn in
    describes_alone a b c.args.step.now c.args.sql.now c.play_step-told.result
    (subst (λ (s : Step). PlaysStep a b s c.play_step-told.result) c.in-Some.ensures c.play_step-told.ensures.plays) c.play_step-told.ensures.counts (rw c.in-Ok-None.field-0-is at c.in-Ok-None.ensures)

pub returns-in-Ok-Some-clause-plays : goal.returns-in-Ok-Some-clause-plays
returns-in-Ok-Some-clause-plays g c =
    let a : ConnSeen = seen_by g.L.Link.seen c.args.conn.now in
    let m : ConnSeen = seen_by g.L.Link.seen c.play_step-told.new.conn in
    let b : ConnSeen = seen_by g.L.Link.seen c.play_step-later.new.conn in
    rw c.both.ensures (describes_both a m b c.args.step.now c.args.sql.now c.play_step-told.result c.play_step-later.result c.in-Ok-Some.query
    (subst (λ (s : Step). PlaysStep a m s c.play_step-told.result) c.in-Some.ensures c.play_step-told.ensures.plays) c.play_step-told.ensures.counts (rw c.in-Ok-Some.field-0-is at c.in-Ok-Some.ensures)
    (subst (λ (s : Step). PlaysStep m b s c.play_step-later.result) c.asking_nulls-second.ensures c.play_step-later.ensures.plays) c.play_step-later.ensures.counts)

pub returns-in-Err-clause-plays : goal.returns-in-Err-clause-plays
returns-in-Err-clause-plays g c =
    let a : ConnSeen = seen_by g.L.Link.seen c.args.conn.now in
    let b : ConnSeen = seen_by g.L.Link.seen c.play_step-told.new.conn in
    describes_too_many a b c.args.step.now c.args.sql.now c.play_step-told.result c.in-Err.e
    (subst (λ (s : Step). PlaysStep a b s c.play_step-told.result) c.in-Some.ensures c.play_step-told.ensures.plays) c.play_step-told.ensures.counts c.in-Err.ensures
