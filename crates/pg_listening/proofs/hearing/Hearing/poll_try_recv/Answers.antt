use Rattle.std.proofs.Common.{◌≡◌, ◌∙◌, Option, Result, Ok, Err, ap, inl, inr, refl, rules, subst, true}
use Rattle.std.proofs.Math.Nat.{le_refl, le_trans}
use Rattle.futures.specs.declared.task.Poll.{Poll}
use Rattle.futures.specs.declared.task.Poll.TheVariants.{Ready, Pending}
use Rattle.pg_wire.specs.declared.error.Error.{Error}
use Rattle.pg_wire.specs.declared.message.notification_response.Notification.{Notification}
use Rattle.pg_listening.specs.Failing.{CausedBy, beside_of}
use Rattle.pg_listening.specs.Hearing.{HearingOf, OnReady}
use Rattle.pg_listening.specs.Waiting.{ListensAgain, OnNone, ReadiesBy, StartsFrom}
use Rattle.pg_listening.proofs.BufferingLaws.{hears_behind}
use Rattle.pg_listening.proofs.FailingLaws.{caused_then, fails_then, notes_caused}
use Rattle.pg_listening.proofs.HearingLaws.{hears_nothing, tells_after}
use Rattle.pg_listening.proofs.PollLaws.{again_from, both, caused_same, none_first, on_none, starts_behind}
use Rattle.pg_listening.proofs.SourceLaws.{dialled, dialled_then, faults_stay}
use Rattle.pg_listening.proofs.TellingLaws.{gives_first, gives_none, hears_same, tells_later, tells_same, untold_same}
use Rattle.pg_listening.proofs.hearing.Hearing.poll_try_recv.Goals as goal

pub returns-then-self : goal.returns-then-self
returns-then-self g c =
    let told = c.poll_loss.ensures in
    let is : c.args.self.now.is_lost ≡ true = search rules in
    record {
      hears = told.hears;
      channels = told.channels;
      source = told.source;
      left = told.left;
      loss = tells_later g.B.L.Link.seen g.B.Held.PgExecutor.conn c.args.self.now c.poll_loss.new.self c.poll_loss.result is told.none told.loss;
      oldest = λ e. both c.args.self.now.is_lost e is;
      startup = told.startup;
      again = told.again;
      causes = told.causes;
      closed = notes_caused g.B.L.Link.seen g.B.Held.PgExecutor.conn g.B.Held.PgExecutor.with_conn g.B.ConnectionSource.filling _ _ _ _ _ c.poll_loss.result told.causes;
      asks = λ e _ _. both c.args.self.now.is_lost e is;
    }

pub returns-in-Some : goal.returns-in-Some
returns-in-Some g c =
    let told = c.in-Some.ensures in
    record {
      hears = told.hears;
      channels = told.channels;
      source = refl;
      left = le_refl _;
      loss = untold_same g.B.L.Link.seen g.B.Held.PgExecutor.conn c.args.self.now c.next_buffered.new.self told.loss;
      oldest = λ _. gives_first _ _ c.in-Some.notification told.oldest;
      startup = inl told.startup;
      again = tt;
      causes = refl;
      closed = tt;
      asks = λ _ e _. none_first c.in-Some.notification _ _ told.oldest e;
    }

pub returns-in-Err : goal.returns-in-Err
returns-in-Err g c =
    let seen = g.B.L.Link.seen in
    let conn = g.B.Held.PgExecutor.conn in
    let with_conn = g.B.Held.PgExecutor.with_conn in
    let filling = g.B.ConnectionSource.filling in
    let a = c.args.self.now in
    let m = c.next_buffered.new.self in
    let same = c.in-None.ensures.same refl in
    let empty = c.in-None.ensures.empty refl in
    let s = g.B.ConnectionSource.now c.args.source.now in
    let u = g.B.ConnectionSource.now c.refuse_closed.new.source in
    let told = c.in-Err.ensures in
    let answer : Poll (Result (Option Notification) Error) = Ready (Err c.in-Err.e) in
    let causes : CausedBy seen conn with_conn filling (beside_of s u) c.args.left.now c.args.left.now a m answer = inr (inr told.refuses) in
    record {
      hears = hears_same seen conn _ _ _ _ same (hears_nothing seen _ _ refl);
      channels = ap (λ h. h.listening.channels) same;
      source = dialled s u told.source;
      left = le_refl _;
      loss = untold_same seen conn a m (ap (λ h. h.is_lost) same);
      oldest = λ _. gives_none _ _ empty;
      startup = tt;
      again = tt;
      causes = causes;
      closed = notes_caused seen conn with_conn filling _ _ _ _ _ answer causes;
      asks = λ _ _ e. (u.seat, Err c.in-Err.e, told.asks (ap (λ h. h.ignores_close) same ∙ e), refl);
    }

pub returns-in-Pending : goal.returns-in-Pending
returns-in-Pending g c =
    let seen = g.B.L.Link.seen in
    let conn = g.B.Held.PgExecutor.conn in
    let with_conn = g.B.Held.PgExecutor.with_conn in
    let filling = g.B.ConnectionSource.filling in
    let a = c.args.self.now in
    let m = c.next_buffered.new.self in
    let same = c.in-None.ensures.same refl in
    let empty = c.in-None.ensures.empty refl in
    let s = g.B.ConnectionSource.now c.args.source.now in
    let u = g.B.ConnectionSource.now c.refuse_closed.new.source in
    let told = c.in-Pending.ensures in
    let b = c.poll_connected.new.self in
    let v = g.B.ConnectionSource.now c.poll_connected.new.source in
    record {
      hears = hears_same seen conn _ _ _ _ same told.hears;
      channels = told.channels ∙ ap (λ h. h.listening.channels) same;
      source = dialled_then s u v (dialled s u c.refuse_closed.ensures.source) told.source;
      left = told.left;
      loss = untold_same seen conn a b (told.loss ∙ ap (λ h. h.is_lost) same);
      oldest = λ _. gives_none _ _ empty;
      startup = tt;
      again = tt;
      causes = caused_same seen conn with_conn filling {X = Option Notification} (beside_of s v) c.args.left.now c.poll_connected.new.left a m b Pending same told.causes;
      closed = tt;
      asks = λ _ _ e. (u.seat, Ok tt, c.in-Ok.ensures.asks (ap (λ h. h.ignores_close) same ∙ e), tt);
    }

pub returns-in-Ready-Err : goal.returns-in-Ready-Err
returns-in-Ready-Err g c =
    let seen = g.B.L.Link.seen in
    let conn = g.B.Held.PgExecutor.conn in
    let with_conn = g.B.Held.PgExecutor.with_conn in
    let filling = g.B.ConnectionSource.filling in
    let a = c.args.self.now in
    let m = c.next_buffered.new.self in
    let same = c.in-None.ensures.same refl in
    let empty = c.in-None.ensures.empty refl in
    let s = g.B.ConnectionSource.now c.args.source.now in
    let u = g.B.ConnectionSource.now c.refuse_closed.new.source in
    let told = c.in-Ready-Err.ensures in
    let b = c.poll_connected.new.self in
    let v = g.B.ConnectionSource.now c.poll_connected.new.source in
    let opened = dialled s u c.refuse_closed.ensures.source in
    let answer : Poll (Result (Option Notification) Error) = Ready (Err c.in-Ready-Err.e) in
    let failed = fails_then seen conn with_conn filling s u v _ _ _ m m b c.in-Ready-Err.e opened (faults_stay s u c.refuse_closed.ensures.source) (hears_nothing seen _ _ refl) (inl refl) (le_refl _) (rw c.in-Ready-Err.field-0-is at told.causes) in
    let causes = caused_same seen conn with_conn filling (beside_of s v) c.args.left.now c.poll_connected.new.left a m b answer same failed in
    record {
      hears = hears_same seen conn _ _ _ _ same told.hears;
      channels = told.channels ∙ ap (λ h. h.listening.channels) same;
      source = dialled_then s u v opened told.source;
      left = told.left;
      loss = untold_same seen conn a b (told.loss ∙ ap (λ h. h.is_lost) same);
      oldest = λ _. gives_none _ _ empty;
      startup = tt;
      again = tt;
      causes = causes;
      closed = notes_caused seen conn with_conn filling _ _ _ _ _ answer causes;
      asks = λ _ _ e. (u.seat, Ok tt, c.in-Ok.ensures.asks (ap (λ h. h.ignores_close) same ∙ e), tt);
    }

pub returns-in-Ready-Ok : goal.returns-in-Ready-Ok
returns-in-Ready-Ok g c =
    let seen = g.B.L.Link.seen in
    let conn = g.B.Held.PgExecutor.conn in
    let with_conn = g.B.Held.PgExecutor.with_conn in
    let filling = g.B.ConnectionSource.filling in
    let a = c.args.self.now in
    let m = c.next_buffered.new.self in
    let same = c.in-None.ensures.same refl in
    let empty = c.in-None.ensures.empty refl in
    let s = g.B.ConnectionSource.now c.args.source.now in
    let u = g.B.ConnectionSource.now c.refuse_closed.new.source in
    let n = c.poll_connected.new.self in
    let b = c.poll_news.new.self in
    let v = g.B.ConnectionSource.now c.poll_connected.new.source in
    let t = g.B.ConnectionSource.now c.poll_news.new.source in
    let opened = dialled s u c.refuse_closed.ensures.source in
    let first = c.in-Ready-Ok.ensures in
    let told = c.poll_news.ensures in
    let answer = c.poll_news.result in
    let startup = rw c.in-Ready-Ok.field-0-is at first.startup in
    let lost = rw c.in-Ready-Ok.field-0-is at first.lost in
    let held = rw c.in-Ready-Ok.field-0-is at first.held in
    let faults = rw c.in-Ready-Ok.field-0-is at first.causes in
    let later = caused_then seen conn with_conn filling u v t _ _ _ m n b answer first.source faults first.hears startup first.left told.causes in
    let behind = caused_then seen conn with_conn filling s u t _ _ _ m m b answer opened (faults_stay s u c.refuse_closed.ensures.source) (hears_nothing seen _ _ refl) (inl refl) (le_refl _) later in
    let causes = caused_same seen conn with_conn filling (beside_of s t) c.args.left.now c.poll_news.new.left a m b answer same behind in
    let again = subst (λ (h : HearingOf _ _ _). OnNone answer (h.is_eager ≡ true → ListensAgain seen conn with_conn h.listening.channels b)) same (again_from seen conn with_conn m n b answer first.hears.settings.0 first.channels told.again) in
    record {
      hears = hears_same seen conn _ _ _ _ same (hears_behind seen _ _ _ _ first.hears told.hears);
      channels = told.channels ∙ first.channels ∙ ap (λ h. h.listening.channels) same;
      source = dialled_then s u t opened (dialled_then u v t first.source told.source);
      left = le_trans told.left first.left;
      loss = tells_same seen conn a m b answer same (tells_after seen conn m n b answer first.hears lost first.loss held told.loss);
      oldest = λ _. gives_none _ answer empty;
      startup = subst (λ (h : HearingOf _ _ _). OnReady answer (StartsFrom seen filling h.startup b.startup)) same (starts_behind seen filling _ _ _ answer startup told.startup);
      again = on_none answer (a.is_eager ≡ true → ListensAgain seen conn with_conn a.listening.channels b) (a.is_eager ≡ true → ReadiesBy seen conn with_conn a b) (λ f e. inr (f e)) again;
      causes = causes;
      closed = notes_caused seen conn with_conn filling _ _ _ _ _ answer causes;
      asks = λ _ _ e. (u.seat, Ok tt, c.in-Ok.ensures.asks (ap (λ h. h.ignores_close) same ∙ e), tt);
    }
