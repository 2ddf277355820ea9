use Rattle.std.proofs.Common.{◌≡◌, ◌∙◌, Ok, Err, ap, inl, refl, rules, subst, sym, true}
use Rattle.std.proofs.Math.Nat.{le_trans}
use Rattle.futures.specs.declared.task.Poll.TheVariants.{Ready}
use Rattle.pg_listening.specs.Hearing.{HearingOf}
use Rattle.pg_listening.proofs.BufferingLaws.{hears_behind}
use Rattle.pg_listening.proofs.FailingLaws.{again_readies, again_waits, caused_on, listen_fails, memory_fails}
use Rattle.pg_listening.proofs.PollLaws.{readies_from}
use Rattle.pg_listening.proofs.SourceLaws.{dialled, dialled_then}
use Rattle.pg_listening.proofs.WaitingLaws.{starts_then, waits_then}
use Rattle.pg_listening.proofs.hearing.Hearing.poll_connected.Goals as goal

pub poll_held-requires : goal.poll_held-requires
poll_held-requires g c = record { mine = c.requires.mine; left = c.requires.left }

pub returns-in-Pending : goal.returns-in-Pending
returns-in-Pending g c =
    let told = c.in-Pending.ensures in
    record { hears = told.hears; channels = told.channels; source = told.source; loss = told.loss; left = told.left; lost = tt; held = tt; startup = tt; ready = tt; causes = told.causes }

pub returns-in-Ready-Err : goal.returns-in-Ready-Err
returns-in-Ready-Err g c =
    let told = c.in-Ready-Err.ensures in
    let causes = rw c.in-Ready-Err.field-0-is at told.causes in
    record { hears = told.hears; channels = told.channels; source = told.source; loss = told.loss; left = told.left; lost = tt; held = tt; startup = tt; ready = tt; causes = causes }

-- ---- a connection is held

pub returns-then-self : goal.returns-then-self
returns-then-self g c =
    let first = c.in-Ready-Ok.ensures in
    let lost = rw c.in-Ready-Ok.field-0-is at first.lost in
    let held = rw c.in-Ready-Ok.field-0-is at first.held in
    let startup = rw c.in-Ready-Ok.field-0-is at first.startup in
    let ready = rw c.in-Ready-Ok.field-0-is at first.ready in
    let faults = rw c.in-Ready-Ok.field-0-is at first.causes in
    let is : c.poll_held.new.self.is_ready ≡ true = search rules in
    record { hears = first.hears; channels = first.channels; source = first.source; loss = first.loss; left = first.left; lost = lost; held = held; startup = startup; ready = inl (subst (λ (h : HearingOf _ _ _). h.is_ready ≡ true) (ready is) is); causes = faults }

pub returns-in-Err : goal.returns-in-Err
returns-in-Err g c =
    let first = c.in-Ready-Ok.ensures in
    let told = c.in-Err.ensures in
    record {
      hears = hears_behind g.B.L.Link.seen _ _ _ _ first.hears told.hears;
      channels = told.channels ∙ first.channels;
      source = first.source;
      loss = told.loss ∙ first.loss;
      left = first.left;
      lost = tt;
      held = tt;
      startup = tt;
      ready = tt;
      causes = inl (memory_fails g.B.L.Link.seen g.B.Held.PgExecutor.conn g.B.Held.PgExecutor.with_conn g.B.ConnectionSource.filling _ _ _ _ c.in-Err.e told.memory);
    }

-- ---- the statement that listens again is asked

pub poll_again-requires : goal.poll_again-requires
poll_again-requires g c =
    let first = c.in-Ready-Ok.ensures in
    let told = c.in-Ok.ensures in
    record { held = told.held; asks = told.asks; left = le_trans first.left c.requires.left }

pub returns-in-Pending-poll_again : goal.returns-in-Pending-poll_again
returns-in-Pending-poll_again g c =
    let seen = g.B.L.Link.seen in
    let conn = g.B.Held.PgExecutor.conn in
    let filling = g.B.ConnectionSource.filling in
    let first = c.in-Ready-Ok.ensures in
    let startup = rw c.in-Ready-Ok.field-0-is at first.startup in
    let asked = c.ask_again.ensures in
    let told = c.in-Pending-poll_again.ensures in
    record {
      hears = hears_behind seen _ _ _ _ first.hears (hears_behind seen _ _ _ _ asked.hears told.hears);
      channels = told.channels ∙ asked.channels ∙ first.channels;
      source = first.source;
      loss = told.loss ∙ asked.loss ∙ first.loss;
      left = le_trans told.left first.left;
      lost = tt;
      held = tt;
      startup = tt;
      ready = tt;
      causes = waits_then seen conn filling _ _ _ _ _ _ _ (hears_behind seen _ _ _ _ first.hears asked.hears) (starts_then seen filling _ _ _ startup (inl asked.startup)) first.left refl refl (again_waits seen conn filling c.poll_held.new.left c.poll_again.new.left c.ask_again.new.self c.poll_again.new.self told.polls);
    }

pub returns-in-Ready-Ok-poll_again : goal.returns-in-Ready-Ok-poll_again
returns-in-Ready-Ok-poll_again g c =
    let seen = g.B.L.Link.seen in
    let conn = g.B.Held.PgExecutor.conn in
    let with_conn = g.B.Held.PgExecutor.with_conn in
    let a = c.args.self.now in
    let m = c.poll_held.new.self in
    let b = c.poll_again.new.self in
    let first = c.in-Ready-Ok.ensures in
    let lost = rw c.in-Ready-Ok.field-0-is at first.lost in
    let startup = rw c.in-Ready-Ok.field-0-is at first.startup in
    let ready = rw c.in-Ready-Ok.field-0-is at first.ready in
    let faults = rw c.in-Ready-Ok.field-0-is at first.causes in
    let asked = c.ask_again.ensures in
    let told = c.in-Ready-Ok-poll_again.ensures in
    let polls = rw c.in-Ready-Ok-poll_again.field-0-is at told.polls in
    record {
      hears = hears_behind seen _ _ _ _ first.hears (hears_behind seen _ _ _ _ asked.hears told.hears);
      channels = told.channels ∙ asked.channels ∙ first.channels;
      source = first.source;
      loss = told.loss ∙ asked.loss ∙ first.loss;
      left = le_trans told.left first.left;
      lost = told.lost ∙ asked.lost ∙ lost;
      held = told.held;
      startup = starts_then seen g.B.ConnectionSource.filling _ _ _ startup (inl (told.startup ∙ asked.startup));
      ready = readies_from seen conn with_conn {X = Unit {0}} a m b (Ready (Ok tt)) ready first.channels (again_readies seen conn with_conn _ _ c.ask_again.new.self _ c.in-Ok.ensures.starts polls);
      causes = faults;
    }

-- ---- it has failed

pub lose-requires : goal.lose-requires
lose-requires g c =
    let first = c.in-Ready-Ok.ensures in
    let told = c.in-Ready-Err-poll_again.ensures in
    record { held = told.held; mine = told.hears.name ∙ c.ask_again.ensures.hears.name ∙ first.hears.name ∙ c.requires.mine ∙ sym (ap (λ s. s.name) first.source) }

pub returns-in-Ok-lose : goal.returns-in-Ok-lose
returns-in-Ok-lose g c =
    let seen = g.B.L.Link.seen in
    let conn = g.B.Held.PgExecutor.conn in
    let with_conn = g.B.Held.PgExecutor.with_conn in
    let filling = g.B.ConnectionSource.filling in
    let s = g.B.ConnectionSource.now c.args.source.now in
    let u = g.B.ConnectionSource.now c.poll_held.new.source in
    let t = g.B.ConnectionSource.now c.lose.new.source in
    let first = c.in-Ready-Ok.ensures in
    let startup = rw c.in-Ready-Ok.field-0-is at first.startup in
    let asked = c.ask_again.ensures in
    let told = c.in-Ready-Err-poll_again.ensures in
    let last = c.in-Ok-lose.ensures in
    let e = c.in-Ready-Err-poll_again.e in
    let apart = rw c.in-Ready-Err-poll_again.field-0-is at told.apart in
    let polls = rw c.in-Ready-Err-poll_again.field-0-is at told.polls in
    record {
      hears = hears_behind seen _ _ _ _ first.hears (hears_behind seen _ _ _ _ asked.hears (hears_behind seen _ _ _ _ told.hears last.hears));
      channels = last.channels ∙ told.channels ∙ asked.channels ∙ first.channels;
      source = dialled_then s u t first.source (dialled u t last.source);
      loss = last.loss ∙ told.loss ∙ asked.loss ∙ first.loss;
      left = le_trans told.left first.left;
      lost = tt;
      held = tt;
      startup = tt;
      ready = tt;
      causes = inl (caused_on seen conn with_conn filling {X = Unit {0}} _ _ _ _ c.poll_held.new.self _ (Ready (Err e)) first.hears startup first.left (listen_fails seen conn with_conn filling _ _ _ c.ask_again.new.self c.poll_again.new.self _ e e c.in-Ok.ensures.starts apart polls (inl (refl, last.link))));
    }

pub returns-in-Err-lose : goal.returns-in-Err-lose
returns-in-Err-lose g c =
    let seen = g.B.L.Link.seen in
    let s = g.B.ConnectionSource.now c.args.source.now in
    let u = g.B.ConnectionSource.now c.poll_held.new.source in
    let t = g.B.ConnectionSource.now c.lose.new.source in
    let first = c.in-Ready-Ok.ensures in
    let asked = c.ask_again.ensures in
    let told = c.in-Ready-Err-poll_again.ensures in
    let last = c.in-Err-lose.ensures in
    record {
      hears = hears_behind seen _ _ _ _ first.hears (hears_behind seen _ _ _ _ asked.hears (hears_behind seen _ _ _ _ told.hears last.hears));
      channels = last.channels ∙ told.channels ∙ asked.channels ∙ first.channels;
      source = dialled_then s u t first.source (dialled u t last.source);
      loss = last.loss ∙ told.loss ∙ asked.loss ∙ first.loss;
      left = le_trans told.left first.left;
      lost = tt;
      held = tt;
      startup = tt;
      ready = tt;
      causes = inl (memory_fails seen g.B.Held.PgExecutor.conn g.B.Held.PgExecutor.with_conn g.B.ConnectionSource.filling _ _ _ _ c.in-Err-lose.wanting last.memory);
    }
