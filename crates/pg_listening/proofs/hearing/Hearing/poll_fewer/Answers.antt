use Rattle.std.proofs.Common.{◌∙◌, ap, refl, sym}
use Rattle.std.proofs.Math.Nat.{le_refl}
use Rattle.pg_listening.specs.Hearing.{heard_of}
use Rattle.pg_listening.proofs.BufferingLaws.{stored_changed}
use Rattle.pg_listening.proofs.FailingLaws.{memory_fails, wanting}
use Rattle.pg_listening.proofs.HearingLaws.{hears_nothing}
use Rattle.pg_listening.proofs.hearing.Hearing.poll_fewer.Goals as goal

pub returns-then-is_held : goal.returns-then-is_held
returns-then-is_held g c =
    let told = c.poll_asked_held.ensures in
    record { hears = told.hears; changes = told.changes; left = told.left; loss = told.loss; causes = told.causes }

pub returns-in-Ok : goal.returns-in-Ok
returns-in-Ok g c =
    let is = c.in-Ok.ensures.ok in
    record {
      hears = hears_nothing g.B.L.Link.seen _ _ (ap (λ h. heard_of g.B.L.Link.seen g.B.Held.PgExecutor.conn h) is);
      changes = ap (λ h. h.listening.channels) is ∙ sym (stored_changed c.args.change.now c.args.self.now.listening.channels c.requires.fewer);
      left = le_refl _;
      loss = ap (λ h. h.is_lost) is;
      causes = tt;
    }

pub returns-in-Err : goal.returns-in-Err
returns-in-Err g c =
    let told = c.in-Err.ensures.err in
    record {
      hears = hears_nothing g.B.L.Link.seen _ _ (ap (λ h. heard_of g.B.L.Link.seen g.B.Held.PgExecutor.conn h) told.0);
      changes = ap (λ h. h.listening.channels) told.0;
      left = le_refl _;
      loss = ap (λ h. h.is_lost) told.0;
      causes = memory_fails g.B.L.Link.seen g.B.Held.PgExecutor.conn g.B.Held.PgExecutor.with_conn g.B.ConnectionSource.filling _ _ _ _ c.in-Err.e (wanting c.in-Err.e _ refl told);
    }
