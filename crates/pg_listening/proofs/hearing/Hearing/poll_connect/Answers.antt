use Rattle.std.proofs.Common.{◌∙◌, [], ap, subst, sym, IsSome}
use Rattle.pg_listening.specs.Hearing.{HearingOf, HearsBy}
use Rattle.pg_listening.specs.Waiting.{StartsFrom}
use Rattle.pg_listening.proofs.hearing.Hearing.poll_connect.Goals as goal

pub returns-in-Pending : goal.returns-in-Pending
returns-in-Pending g c =
    let told = c.in-Pending.ensures in
    record { hears = told.hears; channels = told.channels; source = told.source; loss = told.loss; left = told.left; held = tt; startup = tt; causes = told.causes }

pub returns-in-Ready-Err : goal.returns-in-Ready-Err
returns-in-Ready-Err g c =
    let told = c.in-Ready-Err.ensures in
    let causes = rw c.in-Ready-Err.field-0-is at told.causes in
    record { hears = told.hears; channels = told.channels; source = told.source; loss = told.loss; left = told.left; held = tt; startup = tt; causes = causes }

pub returns-in-Ready-Ok : goal.returns-in-Ready-Ok
returns-in-Ready-Ok g c =
    let a = c.args.self.now in
    let view = c.self.view_is in
    let told = c.in-Ready-Ok.ensures in
    let held = rw c.in-Ready-Ok.field-0-is at told.held in
    let startup = rw c.in-Ready-Ok.field-0-is at told.startup in
    let causes = rw c.in-Ready-Ok.field-0-is at told.causes in
    record {
      hears = subst (λ (h : HearingOf _ _ _). HearsBy g.B.L.Link.seen g.B.Held.PgExecutor.conn a h []) (sym view) told.hears;
      channels = ap (λ h. h.listening.channels) view ∙ told.channels;
      source = told.source;
      loss = ap (λ h. h.is_lost) view ∙ told.loss;
      left = told.left;
      held = subst (λ (h : HearingOf _ _ _). IsSome h.listening.conn) (sym view) held;
      startup = subst (λ (h : HearingOf _ _ _). StartsFrom g.B.L.Link.seen g.B.ConnectionSource.filling a.startup h.startup) (sym view) startup;
      causes = causes;
    }
