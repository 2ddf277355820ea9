use Rattle.std.proofs.Common.{◌∙◌, List, [], ℕ, unwrap_or, ap, inl, refl, subst, sym}
use Rattle.std.proofs.Math.Nat.{le_refl, le_trans}
use Rattle.pg_listening.specs.Listening.{stored_behind}
use Rattle.pg_listening.specs.Hearing.{Changes, HearingOf, HearsBy, channels_at_ok, is_changing}
use Rattle.pg_listening.proofs.BufferingLaws.{hears_behind}
use Rattle.pg_listening.proofs.FailingLaws.{caused_beside, caused_on}
use Rattle.pg_listening.proofs.HearingLaws.{hears_nothing}
use Rattle.pg_listening.proofs.WaitingLaws.{waits_then}
use Rattle.pg_listening.proofs.hearing.Hearing.poll_asked.Goals as goal

pub returns-then-not-listens : goal.returns-then-not-listens
returns-then-not-listens g c =
    let told = c.poll_fewer-answer.ensures in
    record {
      hears = told.hears;
      changes = told.changes;
      source = refl;
      left = told.left;
      loss = told.loss;
      causes = caused_beside g.B.L.Link.seen g.B.Held.PgExecutor.conn g.B.Held.PgExecutor.with_conn g.B.ConnectionSource.filling _ _ _ _ _ c.poll_fewer-answer.result refl told.causes;
    }

pub returns-in-Pending : goal.returns-in-Pending
returns-in-Pending g c =
    let a = c.args.self.now in
    let is = c.ask.ensures in
    let told = c.in-Pending.ensures in
    record {
      hears = subst (λ (h : HearingOf _ _ _). HearsBy g.B.L.Link.seen g.B.Held.PgExecutor.conn a h []) (sym is) told.hears;
      changes = (ap (λ h. h.listening.channels) is ∙ told.channels, ap (λ h. channels_at_ok h) is ∙ ap (λ (l : List (List ℕ)). unwrap_or (stored_behind c.args.change l) l) told.channels, ap (λ h. is_changing h) is);
      source = told.source;
      left = told.left;
      loss = ap (λ h. h.is_lost) is ∙ told.loss;
      causes = waits_then g.B.L.Link.seen g.B.Held.PgExecutor.conn g.B.ConnectionSource.filling _ _ _ _ a c.poll_connected.new.self _ (hears_nothing g.B.L.Link.seen _ _ refl) (inl refl) (le_refl _) (ap (λ h. h.listening.conn) is) (ap (λ h. h.startup) is) told.causes;
    }

pub returns-in-Ready-Err : goal.returns-in-Ready-Err
returns-in-Ready-Err g c =
    let told = c.in-Ready-Err.ensures in
    let causes = rw c.in-Ready-Err.field-0-is at told.causes in
    record { hears = told.hears; changes = told.channels; source = told.source; left = told.left; loss = told.loss; causes = causes }

pub returns-in-Ready-Ok : goal.returns-in-Ready-Ok
returns-in-Ready-Ok g c =
    let first = c.in-Ready-Ok.ensures in
    let told = c.poll_asked_held-answer.ensures in
    let answer = c.poll_asked_held-answer.result in
    let startup = rw c.in-Ready-Ok.field-0-is at first.startup in
    let faults = rw c.in-Ready-Ok.field-0-is at first.causes in
    record {
      hears = hears_behind g.B.L.Link.seen _ _ _ _ first.hears told.hears;
      changes = subst (λ (l : List (List ℕ)). Changes l (unwrap_or (stored_behind c.args.change l) l) c.poll_asked_held-answer.new.self answer) first.channels told.changes;
      source = first.source;
      left = le_trans told.left first.left;
      loss = told.loss ∙ first.loss;
      causes = caused_beside g.B.L.Link.seen g.B.Held.PgExecutor.conn g.B.Held.PgExecutor.with_conn g.B.ConnectionSource.filling _ _ _ _ _ answer faults (caused_on g.B.L.Link.seen g.B.Held.PgExecutor.conn g.B.Held.PgExecutor.with_conn g.B.ConnectionSource.filling _ _ _ _ _ _ answer first.hears startup first.left told.causes);
    }
