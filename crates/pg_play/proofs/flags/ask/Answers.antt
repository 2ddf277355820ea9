use Rattle.std.proofs.Common.{subst}
use Rattle.pg_conn.specs.Connections.{ConnSeen, seen_by}
use Rattle.pg_script.specs.declared.step.Step.{Step}
use Rattle.pg_play.specs.Calls.{PlaysStep}
use Rattle.pg_play.proofs.LockLaws.{asks_nothing, asks_one}
use Rattle.pg_play.proofs.flags.ask.Goals as goal

pub returns-in_default-clause-plays : goal.returns-in_default-clause-plays
returns-in_default-clause-plays g c = asks_nothing (seen_by g.L.Link.seen c.args.conn.now) c.args.step.now c.args.text.now c.args.key c.unprepared.result c.unprepared.ensures.unmade c.unprepared.ensures.counts

pub returns-clause-plays : goal.returns-clause-plays
returns-clause-plays g c =
    let a : ConnSeen = seen_by g.L.Link.seen c.args.conn.now in
    let b : ConnSeen = seen_by g.L.Link.seen c.play_step-told.new.conn in
    rw c.told_flag.ensures (asks_one a b c.args.step.now c.args.text.now c.args.key c.play_step-told.result
    (subst (λ (s : Step). PlaysStep a b s c.play_step-told.result) c.in-Some.ensures c.play_step-told.ensures.plays) c.play_step-told.ensures.counts)
