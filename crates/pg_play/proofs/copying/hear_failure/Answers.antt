use Rattle.std.proofs.Common.{subst, sym, ◌∙◌, ap, false, true, not}
use Rattle.pg_conn.specs.Connections.{ConnSeen, seen_by}
use Rattle.pg_report.specs.declared.outcome.Outcome.{Outcome}
use Rattle.pg_script.specs.declared.step.Step.{Step}
use Rattle.pg_play.specs.Calls.{PlaysStep}
use Rattle.pg_play.specs.Chains.{told_behind}
use Rattle.pg_play.specs.Opened.{PlaysCopy}
use Rattle.pg_play.proofs.PartingLaws.{abort_ends, abort_hears}
use Rattle.pg_play.proofs.copying.hear_failure.Goals as goal

pub returns-then-not-is_cancel : goal.returns-then-not-is_cancel
returns-then-not-is_cancel g c copying message old polled end dropped played =
    let m : ConnSeen = seen_by g.L.Link.seen c.args.conn.now in
    let b : ConnSeen = seen_by g.L.Link.seen c.play_step-later.new.conn in
    rw c.told_behind-told.ensures (abort_hears old m b c.args.step.now copying message c.args.first c.play_step-later.result polled end dropped played c.play_step-later.ensures.counts
    (subst (λ (s : Step). PlaysStep m b s c.play_step-later.result) c.flushing-flush.ensures c.play_step-later.ensures.plays) (sym c.is_cancel-is_cancel.ensures ∙ c.if-not-is_cancel.true))

pub returns : goal.returns
returns g c copying message old polled end dropped played =
    let m : ConnSeen = seen_by g.L.Link.seen c.args.conn.now in
    let n : ConnSeen = seen_by g.L.Link.seen c.play_step-later.new.conn in
    let b : ConnSeen = seen_by g.L.Link.seen c.play_step-last.new.conn in
    let second = subst (λ (s : Step). PlaysStep n b s c.play_step-last.result) (rw c.told_behind-told.ensures at c.flushing-flush-2.ensures) c.play_step-last.ensures.plays in
    rw (c.told_behind.ensures, c.told_behind-told.ensures) (abort_ends old m n b c.args.step.now copying message c.args.first c.play_step-later.result c.play_step-last.result polled end dropped played c.play_step-later.ensures.counts
    (subst (λ (s : Step). PlaysStep m n s c.play_step-later.result) c.flushing-flush.ensures c.play_step-later.ensures.plays) c.play_step-last.ensures.counts second (sym c.is_cancel-is_cancel.ensures ∙ c.if-not-is_cancel.false))
