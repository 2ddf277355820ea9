use Rattle.std.proofs.Common.{◌∙◌, false, [], ap, refl, None}
use Rattle.std.proofs.Math.Nat.{le_refl}
use Rattle.pg_listening.proofs.BufferLaws.{Hears-then}
use Rattle.pg_listening.specs.Listening.{behind_after, channels_behind, stored_behind}
use Rattle.pg_listening.proofs.ChangingLaws.{changes_polled}
use Rattle.pg_listening.proofs.FailingLaws.{caused_asked, memory_fails, wanting}
use Rattle.pg_listening.proofs.HearingLaws.{hears_without}
use Rattle.pg_listening.proofs.NamingLaws.{never, stays_named, stays_some}
use Rattle.pg_listening.proofs.hearing.Hearing.poll_asked_held.Goals as goal

pub returns-in-Ok-clause-hears : goal.returns-in-Ok-clause-hears
returns-in-Ok-clause-hears g c = rw (← c.self.view_is) (hears_without g.B.L.Link.seen _ _ [] refl refl refl refl (Hears-then [] [] _ _ _ [] [] c.change.ensures.hears c.poll_change.ensures.hears))

pub returns-in-Ok-clause-changes : goal.returns-in-Ok-clause-changes
returns-in-Ok-clause-changes g c =
    let channels = c.self.inside.listening.channels in
    let behind = c.in-Ok.ensures.behind in
    let told = c.poll_change.ensures in
    let answer = c.poll_change.result in
    let after = told.behind ∙ ap (λ b. behind_after answer b) behind in
    let now = told.channels ∙ ap (λ l. channels_behind answer c.change.new.self.behind l) c.change.ensures.channels ∙ ap (λ b. channels_behind answer b channels) behind in
    rw (← c.self.view_is) (changes_polled (record { name = c.self.inside.name; listening = c.poll_change.new.self; asked = None; startup = c.self.inside.startup; lost = c.self.inside.lost.items; is_ready = c.self.inside.is_ready; is_again = false; is_lost = c.self.inside.is_lost; is_eager = c.self.inside.is_eager; ignores_close = c.self.inside.ignores_close }) channels (stored_behind c.args.change.now channels) answer refl refl now after told.asking)

pub returns-in-Ok-clause-left : goal.returns-in-Ok-clause-left
returns-in-Ok-clause-left g c = c.poll_change.ensures.left

pub returns-in-Ok-clause-loss : goal.returns-in-Ok-clause-loss
returns-in-Ok-clause-loss g c = rw (← c.self.view_is) refl

pub returns-in-Ok-clause-causes : goal.returns-in-Ok-clause-causes
returns-in-Ok-clause-causes g c = rw (← c.self.view_is) (caused_asked g.B.L.Link.seen g.B.Held.PgExecutor.conn g.B.Held.PgExecutor.with_conn g.B.ConnectionSource.filling _ _ _ _ c.change.new.self c.poll_change.result c.change.ensures.hears c.poll_change.ensures.apart c.poll_change.ensures.polls)

pub returns-in-Err-clause-hears : goal.returns-in-Err-clause-hears
returns-in-Err-clause-hears g c = rw (← c.self.view_is) (hears_without g.B.L.Link.seen _ _ [] refl refl refl refl c.change.ensures.hears)

pub returns-in-Err-clause-changes : goal.returns-in-Err-clause-changes
returns-in-Err-clause-changes g c = rw (← c.self.view_is) c.change.ensures.channels

pub returns-in-Err-clause-left : goal.returns-in-Err-clause-left
returns-in-Err-clause-left g c = le_refl _

pub returns-in-Err-clause-loss : goal.returns-in-Err-clause-loss
returns-in-Err-clause-loss g c = rw (← c.self.view_is) refl

pub returns-in-Err-clause-causes : goal.returns-in-Err-clause-causes
returns-in-Err-clause-causes g c = rw (← c.self.view_is) (memory_fails g.B.L.Link.seen g.B.Held.PgExecutor.conn g.B.Held.PgExecutor.with_conn g.B.ConnectionSource.filling _ _ _ _ c.in-Err.e (wanting c.in-Err.e _ refl c.in-Err.ensures.err))

pub invariant_of-self : goal.invariant_of-self
invariant_of-self g c = record {
  held = stays_named g.B.ConnectionSource.handed g.B.Held.PgExecutor.conn g.B.Held.PgExecutor.with_conn g.met.B.ConnectionSource.handed_with c.self.inside.name c.change.new.self.conn c.poll_change.new.self.conn c.poll_change.ensures.holder (stays_named g.B.ConnectionSource.handed g.B.Held.PgExecutor.conn g.B.Held.PgExecutor.with_conn g.met.B.ConnectionSource.handed_with c.self.inside.name c.self.inside.listening.conn c.change.new.self.conn c.change.ensures.holder c.self.invariant.held);
  startup = c.self.invariant.startup;
  ready = λ e. stays_some g.B.Held.PgExecutor.conn g.B.Held.PgExecutor.with_conn c.change.new.self.conn c.poll_change.new.self.conn c.poll_change.ensures.holder (stays_some g.B.Held.PgExecutor.conn g.B.Held.PgExecutor.with_conn c.self.inside.listening.conn c.change.new.self.conn c.change.ensures.holder (c.self.invariant.ready e));
  again = λ e. never e;
}

pub invariant_of-self-in-Err : goal.invariant_of-self-in-Err
invariant_of-self-in-Err g c = record {
  held = stays_named g.B.ConnectionSource.handed g.B.Held.PgExecutor.conn g.B.Held.PgExecutor.with_conn g.met.B.ConnectionSource.handed_with c.self.inside.name c.self.inside.listening.conn c.change.new.self.conn c.change.ensures.holder c.self.invariant.held;
  startup = c.self.invariant.startup;
  ready = λ e. stays_some g.B.Held.PgExecutor.conn g.B.Held.PgExecutor.with_conn c.self.inside.listening.conn c.change.new.self.conn c.change.ensures.holder (c.self.invariant.ready e);
  again = λ e. never e;
}
