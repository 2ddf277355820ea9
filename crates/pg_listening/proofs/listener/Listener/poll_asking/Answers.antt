use Rattle.std.proofs.Common.{◌∙◌, [], ap, inr, refl}
use Rattle.std.proofs.Math.Nat.{le_refl}
use Rattle.pg_listening.specs.Hearing.{Changes, HearsBy, channels_at_ok}
use Rattle.pg_listening.specs.Listeners.{ListenerOf}
use Rattle.pg_listening.proofs.BufferingLaws.{hears_behind}
use Rattle.pg_listening.proofs.FailingLaws.{notes_caused, wanting}
use Rattle.pg_listening.proofs.HearingLaws.{hears_nothing}
use Rattle.pg_listening.proofs.BesideLaws.{begun_causes, changes_begun, notes_wanting, unbegun}
use Rattle.pg_listening.proofs.listener.Listener.poll_asking.Goals as goal

pub poll_change-requires : goal.poll_change-requires
poll_change-requires g c = record { mine = c.self.invariant; left = c.requires.left; changing = rw (← c.self.view_is) at c.in-Ok.ensures.changing }

pub returns : goal.returns
returns g c =
    let seen = g.B.L.Link.seen in
    let conn = g.B.Held.PgExecutor.conn in
    let begun = c.in-Ok.ensures in
    let told = c.poll_change.ensures in
    let answer = c.poll_change.result in
    let a = c.args.self.now in
    let m = c.begin_asked.new.self in
    let b : ListenerOf _ _ _ _ = record { source = c.poll_change.new.source; hearing = c.poll_change.new.self } in
    let changes : Changes m.hearing.listening.channels (channels_at_ok m.hearing) c.poll_change.new.self answer = rw (← c.self.view_is) told.changes in
    let hears : HearsBy seen conn m.hearing c.poll_change.new.self [] = rw (← c.self.view_is) told.hears in
    let causes = begun_causes seen conn g.B.Held.PgExecutor.with_conn g.B.ConnectionSource.filling {X = Unit {0}} g.B.ConnectionSource.now c.args.left.now c.poll_change.new.left a m b answer begun.rest c.begin_asked.ensures.hears (rw (← c.self.view_is) told.causes) in
    record {
      hears = hears_behind seen _ _ _ [] c.begin_asked.ensures.hears hears;
      changes = changes_begun c.args.change.now a.hearing m.hearing c.poll_change.new.self answer begun.channels begun.next changes;
      begun = c.begin_asked.ensures.begun;
      left = told.left;
      causes = causes;
      closed = rw (ap (λ l. (g.B.ConnectionSource.now l.source).most) (c.self.view_is ∙ begun.rest)) at (notes_caused seen conn g.B.Held.PgExecutor.with_conn g.B.ConnectionSource.filling _ _ _ _ _ answer told.causes);
    }

pub returns-in-Err : goal.returns-in-Err
returns-in-Err g c =
    let none = wanting c.in-Err.e _ refl c.in-Err.ensures.err in
    record {
      hears = c.begin_asked.ensures.hears;
      changes = inr (ap (λ l. l.hearing.listening.channels) c.in-Err.ensures.err.0, none);
      begun = c.begin_asked.ensures.begun;
      left = le_refl _;
      causes = unbegun g.B.L.Link.seen g.B.Held.PgExecutor.conn g.B.Held.PgExecutor.with_conn g.B.ConnectionSource.filling (Unit {0}) _ _ _ c.args.self.now.hearing _ c.in-Err.e (hears_nothing g.B.L.Link.seen _ _ refl) none;
      closed = notes_wanting _ _ _ c.in-Err.e none;
    }
