use Rattle.std.proofs.Common.{◌≡◌, ◌∙◌, [], Some, inl, refl, rules}
use Rattle.std.proofs.Math.Nat.{le_refl}
use Rattle.pg_listening.proofs.FailingLaws.{caused_beside, caused_by, caused_statement}
use Rattle.pg_listening.proofs.HearingLaws.{hears_nothing, hears_without}
use Rattle.pg_listening.proofs.NamingLaws.{none_behind, stays_named, stays_some}
use Rattle.pg_listening.proofs.hearing.Hearing.poll_change.Goals as goal

pub returns-in-Some : goal.returns-in-Some
returns-in-Some g c =
    let told = c.poll_asked.ensures in
    let is : c.self.inside.asked ≡ Some c.in-Some.change = search rules in
    record {
      hears = rw (← c.self.view_is) told.hears;
      changes = rw (← c.self.view_is, is) told.changes;
      source = told.source;
      left = told.left;
      loss = rw (← c.self.view_is) told.loss;
      causes = rw (← c.self.view_is) (caused_by g.B.L.Link.seen g.B.Held.PgExecutor.conn g.B.Held.PgExecutor.with_conn g.B.ConnectionSource.filling _ _ _ _ _ _ _ _ c.poll_asked.result refl (hears_nothing g.B.L.Link.seen _ _ refl) (inl refl) (le_refl _) told.causes);
    }

pub returns-in-None-clause-hears : goal.returns-in-None-clause-hears
returns-in-None-clause-hears g c = rw (← c.self.view_is) (hears_without g.B.L.Link.seen _ _ [] refl refl refl refl c.poll_change.ensures.hears)

pub returns-in-None-clause-source : goal.returns-in-None-clause-source
returns-in-None-clause-source g c = refl

pub returns-in-None-clause-left : goal.returns-in-None-clause-left
returns-in-None-clause-left g c = c.poll_change.ensures.left

pub returns-in-None-clause-loss : goal.returns-in-None-clause-loss
returns-in-None-clause-loss g c = rw (← c.self.view_is) refl

pub returns-in-None-clause-causes : goal.returns-in-None-clause-causes
returns-in-None-clause-causes g c = rw (← c.self.view_is) (caused_beside g.B.L.Link.seen g.B.Held.PgExecutor.conn g.B.Held.PgExecutor.with_conn g.B.ConnectionSource.filling _ _ _ _ _ c.poll_change.result refl (caused_statement g.B.L.Link.seen g.B.Held.PgExecutor.conn g.B.Held.PgExecutor.with_conn g.B.ConnectionSource.filling _ _ _ _ c.poll_change.result c.poll_change.ensures.apart c.poll_change.ensures.polls))

pub invariant_of-self : goal.invariant_of-self
invariant_of-self g c = record { held = c.self.invariant.held; startup = c.self.invariant.startup; ready = c.self.invariant.ready; again = c.self.invariant.again }

pub invariant_of-self-in-None : goal.invariant_of-self-in-None
invariant_of-self-in-None g c = record {
  held = stays_named g.B.ConnectionSource.handed g.B.Held.PgExecutor.conn g.B.Held.PgExecutor.with_conn g.met.B.ConnectionSource.handed_with c.self.inside.name c.self.inside.listening.conn c.poll_change.new.self.conn c.poll_change.ensures.holder c.self.invariant.held;
  startup = c.self.invariant.startup;
  ready = λ e. stays_some g.B.Held.PgExecutor.conn g.B.Held.PgExecutor.with_conn c.self.inside.listening.conn c.poll_change.new.self.conn c.poll_change.ensures.holder (c.self.invariant.ready e);
  again = λ e. c.poll_change.ensures.behind ∙ none_behind c.poll_change.result c.self.inside.listening.behind (c.self.invariant.again e);
}
