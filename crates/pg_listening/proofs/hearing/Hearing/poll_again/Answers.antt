use Rattle.std.proofs.Common.{◌∙◌, [], ap, inl, inr, refl}
use Rattle.std.proofs.Math.Nat.{le_refl}
use Rattle.pg_listening.proofs.BufferLaws.{hears_none}
use Rattle.pg_listening.proofs.HearingLaws.{hears_without}
use Rattle.pg_listening.proofs.NamingLaws.{channels_stay, none_behind, stays_named, stays_some}
use Rattle.pg_listening.proofs.hearing.Hearing.poll_again.Goals as goal

pub invariant_of-self : goal.invariant_of-self
invariant_of-self g c = record { held = c.self.invariant.held; startup = c.self.invariant.startup; ready = c.self.invariant.ready; again = c.self.invariant.again }

pub returns-in-Err : goal.returns-in-Err
returns-in-Err g c =
    let lost = c.reserve.ensures.items in
    record {
      hears = rw (← c.self.view_is) (hears_without g.B.L.Link.seen _ _ [] lost refl refl refl (hears_none _));
      channels = rw (← c.self.view_is) refl;
      loss = rw (← c.self.view_is) refl;
      left = le_refl _;
      lost = rw (← c.self.view_is) lost;
      held = rw (← c.self.view_is) at c.requires.held;
      startup = rw (← c.self.view_is) refl;
      polls = inl refl;
      apart = tt;
    }

pub poll_change-requires-clause-asking : goal.poll_change-requires-clause-asking
poll_change-requires-clause-asking g c = ap (λ h. h.listening.is_asking) c.self.view_is ∙ c.requires.asks.0

pub poll_change-requires-clause-left : goal.poll_change-requires-clause-left
poll_change-requires-clause-left g c = c.requires.left

pub invariant_of-self-in-Pending : goal.invariant_of-self-in-Pending
invariant_of-self-in-Pending g c = record {
  held = stays_named g.B.ConnectionSource.handed g.B.Held.PgExecutor.conn g.B.Held.PgExecutor.with_conn g.met.B.ConnectionSource.handed_with c.self.inside.name c.self.inside.listening.conn c.poll_change.new.self.conn c.poll_change.ensures.holder c.self.invariant.held;
  startup = c.self.invariant.startup;
  ready = λ e. stays_some g.B.Held.PgExecutor.conn g.B.Held.PgExecutor.with_conn c.self.inside.listening.conn c.poll_change.new.self.conn c.poll_change.ensures.holder (c.self.invariant.ready e);
  again = λ e. c.poll_change.ensures.behind ∙ none_behind c.poll_change.result c.self.inside.listening.behind (c.self.invariant.again e);
}

pub returns-in-Pending : goal.returns-in-Pending
returns-in-Pending g c =
    let told = c.poll_change.ensures in
    let lost = c.reserve.ensures.items in
    let none = ap (λ h. h.listening.behind) c.self.view_is ∙ c.requires.asks.1 in
    record {
      hears = rw (← c.self.view_is) (hears_without g.B.L.Link.seen _ _ [] lost refl refl refl told.hears);
      channels = rw (← c.self.view_is) (told.channels ∙ channels_stay c.poll_change.result c.self.inside.listening.behind c.self.inside.listening.channels none);
      loss = rw (← c.self.view_is) refl;
      left = told.left;
      lost = rw (← c.self.view_is) lost;
      held = stays_some g.B.Held.PgExecutor.conn g.B.Held.PgExecutor.with_conn c.self.inside.listening.conn c.poll_change.new.self.conn told.holder (rw (← c.self.view_is) at c.requires.held);
      startup = rw (← c.self.view_is) refl;
      polls = rw (← c.self.view_is) (inr c.in-Pending.ensures.polls);
      apart = tt;
    }

pub invariant_of-self-in-Ready-Ok : goal.invariant_of-self-in-Ready-Ok
invariant_of-self-in-Ready-Ok g c = record {
  held = stays_named g.B.ConnectionSource.handed g.B.Held.PgExecutor.conn g.B.Held.PgExecutor.with_conn g.met.B.ConnectionSource.handed_with c.self.inside.name c.self.inside.listening.conn c.poll_change.new.self.conn c.poll_change.ensures.holder c.self.invariant.held;
  startup = c.self.invariant.startup;
  ready = λ _. stays_some g.B.Held.PgExecutor.conn g.B.Held.PgExecutor.with_conn c.self.inside.listening.conn c.poll_change.new.self.conn c.poll_change.ensures.holder (rw (← c.self.view_is) at c.requires.held);
  again = λ e. c.poll_change.ensures.behind ∙ none_behind c.poll_change.result c.self.inside.listening.behind (c.self.invariant.again e);
}

pub returns-in-Ready-Ok : goal.returns-in-Ready-Ok
returns-in-Ready-Ok g c =
    let told = c.poll_change.ensures in
    let lost = c.reserve.ensures.items in
    let none = ap (λ h. h.listening.behind) c.self.view_is ∙ c.requires.asks.1 in
    record {
      hears = rw (← c.self.view_is) (hears_without g.B.L.Link.seen _ _ [] lost refl refl refl told.hears);
      channels = rw (← c.self.view_is) (told.channels ∙ channels_stay c.poll_change.result c.self.inside.listening.behind c.self.inside.listening.channels none);
      loss = rw (← c.self.view_is) refl;
      left = told.left;
      lost = rw (← c.self.view_is) lost;
      held = stays_some g.B.Held.PgExecutor.conn g.B.Held.PgExecutor.with_conn c.self.inside.listening.conn c.poll_change.new.self.conn told.holder (rw (← c.self.view_is) at c.requires.held);
      startup = rw (← c.self.view_is) refl;
      polls = rw (← c.self.view_is) (inr (rw c.in-Ready-Ok.field-0-is at c.in-Ready-Ok.ensures.polls));
      apart = tt;
    }

pub invariant_of-self-in-Ready-Err : goal.invariant_of-self-in-Ready-Err
invariant_of-self-in-Ready-Err g c = record {
  held = stays_named g.B.ConnectionSource.handed g.B.Held.PgExecutor.conn g.B.Held.PgExecutor.with_conn g.met.B.ConnectionSource.handed_with c.self.inside.name c.self.inside.listening.conn c.poll_change.new.self.conn c.poll_change.ensures.holder c.self.invariant.held;
  startup = c.self.invariant.startup;
  ready = λ e. stays_some g.B.Held.PgExecutor.conn g.B.Held.PgExecutor.with_conn c.self.inside.listening.conn c.poll_change.new.self.conn c.poll_change.ensures.holder (c.self.invariant.ready e);
  again = λ e. c.poll_change.ensures.behind ∙ none_behind c.poll_change.result c.self.inside.listening.behind (c.self.invariant.again e);
}

pub returns-in-Ready-Err : goal.returns-in-Ready-Err
returns-in-Ready-Err g c =
    let told = c.poll_change.ensures in
    let lost = c.reserve.ensures.items in
    let none = ap (λ h. h.listening.behind) c.self.view_is ∙ c.requires.asks.1 in
    record {
      hears = rw (← c.self.view_is) (hears_without g.B.L.Link.seen _ _ [] lost refl refl refl told.hears);
      channels = rw (← c.self.view_is) (told.channels ∙ channels_stay c.poll_change.result c.self.inside.listening.behind c.self.inside.listening.channels none);
      loss = rw (← c.self.view_is) refl;
      left = told.left;
      lost = rw (← c.self.view_is) lost;
      held = stays_some g.B.Held.PgExecutor.conn g.B.Held.PgExecutor.with_conn c.self.inside.listening.conn c.poll_change.new.self.conn told.holder (rw (← c.self.view_is) at c.requires.held);
      startup = rw (← c.self.view_is) refl;
      polls = rw (← c.self.view_is) (inr (rw c.in-Ready-Err.field-0-is at c.in-Ready-Err.ensures.polls));
      apart = rw c.in-Ready-Err.field-0-is at c.in-Ready-Err.ensures.apart;
    }
