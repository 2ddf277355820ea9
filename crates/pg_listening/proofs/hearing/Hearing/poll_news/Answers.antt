use Rattle.std.proofs.Common.{◌≡◌, ◌++◌, ◌∙◌, true, Bool, List, [], ap, inl, refl, subst, sym}
use Rattle.std.proofs.Math.Nat.{le_refl, le_trans}
use Rattle.futures.specs.declared.task.Poll.TheVariants.{Ready}
use Rattle.pg_wire.specs.declared.error.IoCause.TheVariants.{End}
use Rattle.pg_wire.specs.declared.message.notification_response.Notification.{Notification}
use Rattle.pg_conn.specs.News.{given}
use Rattle.pg_listening.specs.Hearing.{HearingOf, HearsBy, LossBehind}
use Rattle.pg_listening.specs.Waiting.{StartsFrom}
use Rattle.pg_listening.proofs.BufferingLaws.{hears_behind}
use Rattle.pg_listening.proofs.FailingLaws.{caused_by, caused_then, memory_fails}
use Rattle.pg_listening.proofs.PollLaws.{again_from, lost_again, starts_behind}
use Rattle.pg_listening.proofs.SourceLaws.{dialled, dialled_then, faults_stay}
use Rattle.pg_listening.proofs.TellingLaws.{tells_failed, tells_held, untold_same}
use Rattle.pg_listening.proofs.hearing.Hearing.poll_news.Goals as goal

pub returns-in-Pending : goal.returns-in-Pending
returns-in-Pending g c =
    let told = c.in-Pending.ensures in
    record { hears = told.hears; channels = told.channels; source = refl; left = told.left; loss = untold_same g.B.L.Link.seen g.B.Held.PgExecutor.conn c.args.self.now c.wait.new.self told.loss; startup = tt; again = tt; causes = told.causes }

pub returns-in-Ready-Ok : goal.returns-in-Ready-Ok
returns-in-Ready-Ok g c =
    let told = c.in-Ready-Ok.ensures in
    let hears = rw c.in-Ready-Ok.field-0-is at told.hears in
    record { hears = hears; channels = told.channels; source = refl; left = told.left; loss = untold_same g.B.L.Link.seen g.B.Held.PgExecutor.conn c.args.self.now c.wait.new.self told.loss; startup = inl told.startup; again = tt; causes = refl }

pub returns-in-Ok : goal.returns-in-Ok
returns-in-Ok g c =
    let a = c.args.self.now in
    let m = c.wait.new.self in
    let lost = c.set_lost.new.self in
    let b = c.poll_loss.new.self in
    let s = (g.B.ConnectionSource.now c.args.source.now) in
    let u = (g.B.ConnectionSource.now c.lose.new.source) in
    let t = (g.B.ConnectionSource.now c.poll_loss.new.source) in
    let first = c.in-Ready-Err-Io.ensures in
    let lose = c.lose.ensures in
    let set = c.set_lost.ensures in
    let told = c.poll_loss.ensures in
    let answer = c.poll_loss.result in
    let fails = rw (c.in-Ready-Err-Io.field-0-is, c.in-Ready-Err-Io.field-0-0-is) at first.fails in
    let none : given (Ready c.in-Ready-Err-Io.field-0) ≡ [] = ap (λ answer. given (Ready answer)) c.in-Ready-Err-Io.field-0-is in
    let heard = subst (λ (gave : List Notification). HearsBy g.B.L.Link.seen g.B.Held.PgExecutor.conn a m gave) none first.hears in
    let links : lost.lost ≡ c.lose.new.self.lost = ap (λ h. h.lost) set in
    let is : lost.is_lost ≡ true = ap (λ h. h.is_lost) set in
    let hears = subst (λ (h : HearingOf _ _ _). HearsBy g.B.L.Link.seen g.B.Held.PgExecutor.conn m h []) (sym set) lose.hears in
    let startup : StartsFrom g.B.L.Link.seen g.B.ConnectionSource.filling m.startup lost.startup = inl (ap (λ h. h.startup) set ∙ lose.startup) in
    let loss =
    tells_held g.B.Held.PgExecutor.conn m.listening.conn m.lost c.lose.new.self.lost told.hears.links b.lost m.is_lost b.is_lost answer c.in-Ok.ensures.link (told.hears.lost ∙ ap (λ l. l ++ told.hears.links) links) told.none
    (subst (λ (s : Bool). LossBehind answer s b.is_lost) is told.loss) in
    let again = lost_again g.B.L.Link.seen g.B.Held.PgExecutor.conn g.B.Held.PgExecutor.with_conn m lost b answer (ap (λ h. h.is_ready) set ∙ lose.ready) hears.settings.0 (ap (λ h. h.listening.channels) set ∙ lose.channels) told.again in
    let causes = caused_then g.B.L.Link.seen g.B.Held.PgExecutor.conn g.B.Held.PgExecutor.with_conn g.B.ConnectionSource.filling s u t _ _ _ m lost b answer (dialled s u lose.source) (faults_stay s u lose.source) hears startup (le_refl _) told.causes in
    record {
      hears = hears_behind g.B.L.Link.seen _ _ _ _ heard (hears_behind g.B.L.Link.seen _ _ _ _ hears told.hears);
      channels = told.channels ∙ ap (λ h. h.listening.channels) set ∙ lose.channels ∙ first.channels;
      source = dialled_then s u t (dialled s u lose.source) told.source;
      left = le_trans told.left first.left;
      loss = tells_failed g.B.L.Link.seen g.B.Held.PgExecutor.conn a m b End answer c.requires.held first.lost first.loss loss fails;
      startup = starts_behind g.B.L.Link.seen g.B.ConnectionSource.filling _ _ _ answer (inl first.startup) (starts_behind g.B.L.Link.seen g.B.ConnectionSource.filling _ _ _ answer startup told.startup);
      again = again_from g.B.L.Link.seen g.B.Held.PgExecutor.conn g.B.Held.PgExecutor.with_conn a m b answer heard.settings.0 first.channels again;
      causes = caused_by g.B.L.Link.seen g.B.Held.PgExecutor.conn g.B.Held.PgExecutor.with_conn g.B.ConnectionSource.filling _ _ _ _ _ a m b answer refl heard (inl first.startup) first.left causes;
    }

pub returns-in-Err : goal.returns-in-Err
returns-in-Err g c =
    let a = c.args.self.now in
    let m = c.wait.new.self in
    let first = c.in-Ready-Err-Io.ensures in
    let told = c.in-Err.ensures in
    let none : given (Ready c.in-Ready-Err-Io.field-0) ≡ [] = ap (λ answer. given (Ready answer)) c.in-Ready-Err-Io.field-0-is in
    let heard = subst (λ (gave : List Notification). HearsBy g.B.L.Link.seen g.B.Held.PgExecutor.conn a m gave) none first.hears in
    record {
      hears = hears_behind g.B.L.Link.seen _ _ _ _ heard told.hears;
      channels = told.channels ∙ first.channels;
      source = dialled (g.B.ConnectionSource.now c.args.source.now) (g.B.ConnectionSource.now c.lose.new.source) told.source;
      left = first.left;
      loss = untold_same g.B.L.Link.seen g.B.Held.PgExecutor.conn a c.lose.new.self (told.loss ∙ first.loss);
      startup = tt;
      again = tt;
      causes = inl (memory_fails g.B.L.Link.seen g.B.Held.PgExecutor.conn g.B.Held.PgExecutor.with_conn g.B.ConnectionSource.filling _ _ _ _ c.in-Err.e told.memory);
    }

pub returns-in-Ready-Err : goal.returns-in-Ready-Err
returns-in-Ready-Err g c =
    let told = c.in-Ready-Err.ensures in
    let hears = rw c.in-Ready-Err.field-0-is at told.hears in
    let causes = rw c.in-Ready-Err.field-0-is at told.causes in
    record { hears = hears; channels = told.channels; source = refl; left = told.left; loss = untold_same g.B.L.Link.seen g.B.Held.PgExecutor.conn c.args.self.now c.wait.new.self told.loss; startup = tt; again = tt; causes = inl causes }
