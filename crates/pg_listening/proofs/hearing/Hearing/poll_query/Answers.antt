use Rattle.std.proofs.Common.{◌∙◌, [], IsSome, Option, ap, false, inr, refl, subst, sym}
use Rattle.std.proofs.Math.Nat.{le_trans}
use Rattle.pg_call.specs.declared.kind.Kind.{Kind}
use Rattle.pg_call.specs.declared.request.Request.{Request}
use Rattle.pg_listening.specs.Hearing.{HearingOf, HearsBy}
use Rattle.pg_listening.specs.Listening.{CallsOn}
use Rattle.pg_listening.specs.Querying.{IsQuerying}
use Rattle.pg_listening.specs.Waiting.{ReadiesBy}
use Rattle.pg_listening.proofs.BufferLaws.{Hears-then}
use Rattle.pg_listening.proofs.BufferingLaws.{hears_behind}
use Rattle.pg_listening.proofs.HearingLaws.{hears_without}
use Rattle.pg_listening.proofs.NamingLaws.{never, stays_named, stays_some}
use Rattle.pg_listening.proofs.QueryingLaws.{asked_now, notes_apart, notes_failed, polled_on, starts_some}
use Rattle.pg_listening.proofs.hearing.Hearing.poll_query.Goals as goal

-- ---- its call runs already

pub poll_call-requires-clause-calling : goal.poll_call-requires-clause-calling
poll_call-requires-clause-calling g c =
    subst (λ (h : HearingOf _ _ _). (kind : Kind) × CallsOn g.B.Held.PgExecutor.conn kind h.listening.conn) (sym c.self.view_is) (c.requires.querying.0, subst (λ (r : Option Request). IsQuerying g.B.Held.PgExecutor.conn c.requires.querying.0 r c.args.self.now) c.in-None.is c.requires.querying.1)

pub poll_call-requires-clause-left : goal.poll_call-requires-clause-left
poll_call-requires-clause-left g c = c.requires.left

pub invariant_of-self : goal.invariant_of-self
invariant_of-self g c = record {
  held = stays_named g.B.ConnectionSource.handed g.B.Held.PgExecutor.conn g.B.Held.PgExecutor.with_conn g.met.B.ConnectionSource.handed_with c.self.inside.name c.self.inside.listening.conn c.poll_call.new.self.conn c.poll_call.ensures.holder c.self.invariant.held;
  startup = c.self.invariant.startup;
  ready = λ e. stays_some g.B.Held.PgExecutor.conn g.B.Held.PgExecutor.with_conn c.self.inside.listening.conn c.poll_call.new.self.conn c.poll_call.ensures.holder (c.self.invariant.ready e);
  again = λ e. never e;
}

pub returns-in-None : goal.returns-in-None
returns-in-None g c =
    let told = c.poll_call.ensures in
    record {
      hears = rw (← c.self.view_is) (hears_without g.B.L.Link.seen _ _ [] refl refl refl refl told.hears);
      channels = rw (← c.self.view_is) told.channels;
      source = refl;
      loss = rw (← c.self.view_is) refl;
      left = told.left;
      queries = rw (← c.self.view_is, c.in-None.is) (polled_on g.B.L.Link.seen g.B.Held.PgExecutor.conn g.B.Held.PgExecutor.with_conn g.B.ConnectionSource.filling _ _ _ _ _ c.poll_call.result told.polls told.apart);
      closed = notes_apart _ _ _ c.poll_call.result told.apart;
    }

-- ---- it is yet to be asked

pub poll_connected-requires : goal.poll_connected-requires
poll_connected-requires g c = record { mine = c.requires.mine; left = c.requires.left }

pub returns-in-Pending : goal.returns-in-Pending
returns-in-Pending g c =
    let told = c.in-Pending.ensures in
    record { hears = told.hears; channels = told.channels; source = told.source; loss = told.loss; left = told.left; queries = rw c.in-Some.is (inr (refl, told.causes, refl)); closed = tt }

pub returns-in-Ready-Err : goal.returns-in-Ready-Err
returns-in-Ready-Err g c =
    let told = c.in-Ready-Err.ensures in
    let causes = rw c.in-Ready-Err.field-0-is at told.causes in
    record {
      hears = told.hears;
      channels = told.channels;
      source = told.source;
      loss = told.loss;
      left = told.left;
      queries = rw c.in-Some.is (inr (refl, causes, refl));
      closed = notes_failed g.B.L.Link.seen g.B.Held.PgExecutor.conn g.B.Held.PgExecutor.with_conn g.B.ConnectionSource.filling _ _ _ _ _ c.in-Ready-Err.e causes;
    }

pub start-requires : goal.start-requires
start-requires g c =
    let held = rw c.in-Ready-Ok.field-0-is at c.in-Ready-Ok.ensures.held in
    subst (λ (h : HearingOf _ _ _). IsSome h.listening.conn) (sym c.self-in-Some.view_is) held

pub poll_call-requires-in-Ready-Ok-clause-calling : goal.poll_call-requires-in-Ready-Ok-clause-calling
poll_call-requires-in-Ready-Ok-clause-calling g c = starts_some g.B.Held.PgExecutor.conn g.B.Held.PgExecutor.with_conn g.met.B.Held.PgExecutor.written c.in-Some.request _ _ c.start.ensures.starts

pub poll_call-requires-in-Ready-Ok-clause-left : goal.poll_call-requires-in-Ready-Ok-clause-left
poll_call-requires-in-Ready-Ok-clause-left g c = le_trans c.in-Ready-Ok.ensures.left c.requires.left

pub invariant_of-self-in-Ready-Ok : goal.invariant_of-self-in-Ready-Ok
invariant_of-self-in-Ready-Ok g c =
    let inside = c.self-in-Some.inside in
    let kept = c.self-in-Some.invariant in
    let begun = c.start.new.self in
    let polled = c.poll_call-in-Ready-Ok in
    record {
      held = stays_named g.B.ConnectionSource.handed g.B.Held.PgExecutor.conn g.B.Held.PgExecutor.with_conn g.met.B.ConnectionSource.handed_with inside.name begun.conn polled.new.self.conn polled.ensures.holder (stays_named g.B.ConnectionSource.handed g.B.Held.PgExecutor.conn g.B.Held.PgExecutor.with_conn g.met.B.ConnectionSource.handed_with inside.name inside.listening.conn begun.conn c.start.ensures.holder kept.held);
      startup = kept.startup;
      ready = λ e. stays_some g.B.Held.PgExecutor.conn g.B.Held.PgExecutor.with_conn begun.conn polled.new.self.conn polled.ensures.holder (stays_some g.B.Held.PgExecutor.conn g.B.Held.PgExecutor.with_conn inside.listening.conn begun.conn c.start.ensures.holder (kept.ready e));
      again = λ e. never e;
    }

pub returns-in-Ready-Ok : goal.returns-in-Ready-Ok
returns-in-Ready-Ok g c =
    let seen = g.B.L.Link.seen in
    let conn = g.B.Held.PgExecutor.conn in
    let with_conn = g.B.Held.PgExecutor.with_conn in
    let a = c.args.self.now in
    let view = c.self-in-Some.view_is in
    let inside = c.self-in-Some.inside in
    let first = c.in-Ready-Ok.ensures in
    let begun = c.start.ensures in
    let told = c.poll_call-in-Ready-Ok.ensures in
    let heard = subst (λ (h : HearingOf _ _ _). HearsBy seen conn a h []) (sym view) first.hears in
    let ready = subst (λ (h : HearingOf _ _ _). ReadiesBy seen conn with_conn a h) (sym view) (rw c.in-Ready-Ok.field-0-is at first.ready) in
    record {
      hears = hears_behind seen _ _ _ _ heard (hears_without seen _ _ [] refl refl refl refl (Hears-then [] [] _ _ _ [] [] begun.hears told.hears));
      channels = told.channels ∙ begun.channels ∙ ap (λ h. h.listening.channels) view ∙ first.channels;
      source = first.source;
      loss = ap (λ h. h.is_lost) view ∙ first.loss;
      left = le_trans told.left first.left;
      queries = rw c.in-Some.is (asked_now seen conn with_conn g.B.ConnectionSource.filling _ _ _ _ c.in-Some.request a _ _ c.poll_call-in-Ready-Ok.result heard first.left ready (record { name = inside.name; listening = c.start.new.self; asked = inside.asked; startup = inside.startup; lost = inside.lost.items; is_ready = inside.is_ready; is_again = false; is_lost = inside.is_lost; is_eager = inside.is_eager; ignores_close = inside.ignores_close }, hears_without seen _ _ [] refl refl refl refl begun.hears, begun.starts, told.polls) told.apart);
      closed = notes_apart _ _ _ c.poll_call-in-Ready-Ok.result told.apart;
    }
