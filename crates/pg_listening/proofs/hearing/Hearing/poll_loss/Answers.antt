use Rattle.std.proofs.Common.{◌≡◌, ◌∙◌, [], ap, false, inl, refl, rules, subst, sym}
use Rattle.std.proofs.Math.Nat.{le_refl}
use Rattle.pg_listening.specs.Hearing.{HearingOf, HearsBy, heard_of}
use Rattle.pg_listening.specs.Waiting.{StartsFrom}
use Rattle.pg_listening.proofs.HearingLaws.{hears_nothing}
use Rattle.pg_listening.proofs.PollLaws.{both, readies_at}
use Rattle.pg_listening.proofs.hearing.Hearing.poll_loss.Goals as goal

pub returns-then-not-self : goal.returns-then-not-self
returns-then-not-self g c =
    let is = c.set_lost.ensures in
    let later : c.args.self.now.is_eager ≡ false = search rules in
    record {
      hears = hears_nothing g.B.L.Link.seen _ _ (ap (λ h. heard_of g.B.L.Link.seen g.B.Held.PgExecutor.conn h) is);
      channels = ap (λ h. h.listening.channels) is;
      source = refl;
      left = le_refl _;
      loss = ap (λ h. h.is_lost) is;
      none = refl;
      startup = inl (ap (λ h. h.startup) is);
      again = λ e. both c.args.self.now.is_eager later e;
      causes = refl;
    }

pub returns-in-Pending : goal.returns-in-Pending
returns-in-Pending g c =
    let told = c.in-Pending.ensures in
    record { hears = told.hears; channels = told.channels; source = told.source; left = told.left; loss = told.loss; none = refl; startup = tt; again = tt; causes = told.causes }

pub returns-in-Ready-Err : goal.returns-in-Ready-Err
returns-in-Ready-Err g c =
    let told = c.in-Ready-Err.ensures in
    let causes = rw c.in-Ready-Err.field-0-is at told.causes in
    record { hears = told.hears; channels = told.channels; source = told.source; left = told.left; loss = told.loss; none = refl; startup = tt; again = tt; causes = causes }

pub returns-in-Ready-Ok : goal.returns-in-Ready-Ok
returns-in-Ready-Ok g c =
    let is = c.set_lost-in-Ready-Ok.ensures in
    let told = c.in-Ready-Ok.ensures in
    let startup = rw c.in-Ready-Ok.field-0-is at told.startup in
    let ready = rw c.in-Ready-Ok.field-0-is at told.ready in
    let causes = rw c.in-Ready-Ok.field-0-is at told.causes in
    record {
      hears = subst (λ (h : HearingOf _ _ _). HearsBy g.B.L.Link.seen g.B.Held.PgExecutor.conn c.args.self.now h []) (sym is) told.hears;
      channels = ap (λ h. h.listening.channels) is ∙ told.channels;
      source = told.source;
      left = told.left;
      loss = ap (λ h. h.is_lost) is;
      none = refl;
      startup = subst (λ (h : HearingOf _ _ _). StartsFrom g.B.L.Link.seen g.B.ConnectionSource.filling c.args.self.now.startup h.startup) (sym is) startup;
      again = λ _. readies_at g.B.L.Link.seen g.B.Held.PgExecutor.conn g.B.Held.PgExecutor.with_conn c.args.self.now c.poll_connected.new.self c.set_lost-in-Ready-Ok.new.self (ap (λ h. h.listening.conn) is) ready;
      causes = causes;
    }
