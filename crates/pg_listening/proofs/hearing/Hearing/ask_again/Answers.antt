use Rattle.std.proofs.Common.{[], inr, refl}
use Rattle.pg_listening.proofs.FailingLaws.{wanting}
use Rattle.pg_listening.proofs.HearingLaws.{hears_nothing, hears_without}
use Rattle.pg_listening.proofs.NamingLaws.{never, stays_named, stays_some}
use Rattle.pg_listening.proofs.hearing.Hearing.ask_again.Goals as goal

pub invariant_of-self : goal.invariant_of-self
invariant_of-self g c = record {
  held = stays_named g.B.ConnectionSource.handed g.B.Held.PgExecutor.conn g.B.Held.PgExecutor.with_conn g.met.B.ConnectionSource.handed_with c.self.inside.name c.self.inside.listening.conn c.listen_again.new.self.conn c.listen_again.ensures.holder c.self.invariant.held;
  startup = c.self.invariant.startup;
  ready = λ e. stays_some g.B.Held.PgExecutor.conn g.B.Held.PgExecutor.with_conn c.self.inside.listening.conn c.listen_again.new.self.conn c.listen_again.ensures.holder (c.self.invariant.ready e);
  again = λ _. c.in-Ok.ensures.behind;
}

pub invariant_of-self-in-Err : goal.invariant_of-self-in-Err
invariant_of-self-in-Err g c = record {
  held = stays_named g.B.ConnectionSource.handed g.B.Held.PgExecutor.conn g.B.Held.PgExecutor.with_conn g.met.B.ConnectionSource.handed_with c.self.inside.name c.self.inside.listening.conn c.listen_again.new.self.conn c.listen_again.ensures.holder c.self.invariant.held;
  startup = c.self.invariant.startup;
  ready = λ e. stays_some g.B.Held.PgExecutor.conn g.B.Held.PgExecutor.with_conn c.self.inside.listening.conn c.listen_again.new.self.conn c.listen_again.ensures.holder (c.self.invariant.ready e);
  again = λ e. never e;
}

pub returns-in-Ok : goal.returns-in-Ok
returns-in-Ok g c =
    let told = c.in-Ok.ensures in
    record {
      hears = rw (← c.self.view_is) (hears_without g.B.L.Link.seen _ _ [] refl refl refl refl told.hears);
      channels = rw (← c.self.view_is) told.channels;
      held = stays_some g.B.Held.PgExecutor.conn g.B.Held.PgExecutor.with_conn c.self.inside.listening.conn c.listen_again.new.self.conn told.holder (rw (← c.self.view_is) at c.requires.held);
      asks = (told.asking, told.behind);
      starts = rw (← c.self.view_is) (inr told.starts);
      lost = rw (← c.self.view_is) refl;
      loss = rw (← c.self.view_is) refl;
      startup = rw (← c.self.view_is) refl;
      memory = tt;
    }

pub returns-in-Err : goal.returns-in-Err
returns-in-Err g c =
    let told = c.in-Err.ensures in
    record {
      hears = rw (← c.self.view_is) (hears_without g.B.L.Link.seen _ _ [] refl refl refl refl told.hears);
      channels = rw (← c.self.view_is) told.channels;
      held = stays_some g.B.Held.PgExecutor.conn g.B.Held.PgExecutor.with_conn c.self.inside.listening.conn c.listen_again.new.self.conn told.holder (rw (← c.self.view_is) at c.requires.held);
      asks = tt;
      starts = tt;
      lost = rw (← c.self.view_is) refl;
      loss = rw (← c.self.view_is) refl;
      startup = rw (← c.self.view_is) refl;
      memory = wanting c.in-Err.e _ refl told.err;
    }

pub returns-then-is_asking-clause-hears : goal.returns-then-is_asking-clause-hears
returns-then-is_asking-clause-hears g c = hears_nothing g.B.L.Link.seen _ _ refl

pub returns-then-is_asking-clause-held : goal.returns-then-is_asking-clause-held
returns-then-is_asking-clause-held g c = c.requires.held
