use Rattle.std.proofs.Common.{◌∙◌, [], ◌∷◌, ap, inl, inr, refl, rules, sym}
use Rattle.std.proofs.Math.Nat.{le_refl, le_trans}
use Rattle.pg_listening.proofs.BufferingLaws.{hears_behind}
use Rattle.pg_listening.proofs.FailingLaws.{fails_then}
use Rattle.pg_listening.proofs.HearingLaws.{hears_nothing}
use Rattle.pg_listening.proofs.WaitingLaws.{starts_then, waits_then}
use Rattle.pg_listening.proofs.SourceLaws.{dialled_then}
use Rattle.pg_listening.proofs.hearing.Hearing.poll_recv.Goals as goal

pub returns-in-Pending : goal.returns-in-Pending
returns-in-Pending g c =
    let known = c.loop-e.invariant in
    let told = c.in-Pending.ensures in
    record {
      hears = hears_behind g.B.L.Link.seen _ _ _ [] known.hears told.hears;
      channels = told.channels ∙ known.channels;
      source = dialled_then (g.B.ConnectionSource.now c.args.source.now) (g.B.ConnectionSource.now c.loop-e.source) (g.B.ConnectionSource.now c.poll_try_recv.new.source) known.source told.source;
      left = le_trans told.left known.left;
      pending = inl (waits_then g.B.L.Link.seen g.B.Held.PgExecutor.conn g.B.ConnectionSource.filling _ _ _ _ _ _ _ known.hears known.startup known.left refl refl told.causes);
      fails = tt;
      closed = tt;
    }

pub returns-in-Ready-Err : goal.returns-in-Ready-Err
returns-in-Ready-Err g c =
    let known = c.loop-e.invariant in
    let told = c.in-Ready-Err.ensures in
    let hears = rw c.in-Ready-Err.field-0-is at told.hears in
    let causes = rw c.in-Ready-Err.field-0-is at told.causes in
    let closed = rw c.in-Ready-Err.field-0-is at told.closed in
    record {
      hears = hears_behind g.B.L.Link.seen _ _ _ [] known.hears hears;
      channels = told.channels ∙ known.channels;
      source = dialled_then (g.B.ConnectionSource.now c.args.source.now) (g.B.ConnectionSource.now c.loop-e.source) (g.B.ConnectionSource.now c.poll_try_recv.new.source) known.source told.source;
      left = le_trans told.left known.left;
      pending = tt;
      fails = fails_then g.B.L.Link.seen g.B.Held.PgExecutor.conn g.B.Held.PgExecutor.with_conn g.B.ConnectionSource.filling (g.B.ConnectionSource.now c.args.source.now) (g.B.ConnectionSource.now c.loop-e.source) (g.B.ConnectionSource.now c.poll_try_recv.new.source) _ _ _ _ _ _ c.in-Ready-Err.e known.source known.faults known.hears known.startup known.left causes;
      closed = rw (ap (λ x. x.most) known.source) at closed;
    }

pub returns-in-Ready-Ok-Some : goal.returns-in-Ready-Ok-Some
returns-in-Ready-Ok-Some g c =
    let known = c.loop-e.invariant in
    let told = c.in-Ready-Ok-Some.ensures in
    let hears = rw (c.in-Ready-Ok-Some.field-0-is, c.in-Ready-Ok-Some.field-0-0-is) at told.hears in
    record {
      hears = hears_behind g.B.L.Link.seen _ _ _ (c.in-Ready-Ok-Some.notification ∷ []) known.hears hears;
      channels = told.channels ∙ known.channels;
      source = dialled_then (g.B.ConnectionSource.now c.args.source.now) (g.B.ConnectionSource.now c.loop-e.source) (g.B.ConnectionSource.now c.poll_try_recv.new.source) known.source told.source;
      left = le_trans told.left known.left;
      pending = tt;
      fails = tt;
      closed = tt;
    }

pub loop-e-init : goal.loop-e-init
loop-e-init g c = record { hears = hears_nothing g.B.L.Link.seen _ _ refl; startup = inl refl; faults = refl; channels = refl; source = refl; mine = c.requires.mine; left = le_refl _; most = c.requires.left }

pub poll_try_recv-requires-clause-mine : goal.poll_try_recv-requires-clause-mine
poll_try_recv-requires-clause-mine g c =
    let known = c.loop-e.invariant in
    known.hears.name ∙ known.mine ∙ sym (ap (λ x. x.name) known.source)

pub poll_try_recv-requires-clause-left : goal.poll_try_recv-requires-clause-left
poll_try_recv-requires-clause-left g c = le_trans c.loop-e.invariant.left c.loop-e.invariant.most

pub returns-then-not-goes_on : goal.returns-then-not-goes_on
returns-then-not-goes_on g c =
    let known = c.loop-e.invariant in
    let told = c.in-Ready-Ok-None.ensures in
    let hears = rw (c.in-Ready-Ok-None.field-0-is, c.in-Ready-Ok-None.field-0-0-is) at told.hears in
    record {
      hears = hears_behind g.B.L.Link.seen _ _ _ [] known.hears hears;
      channels = told.channels ∙ known.channels;
      source = dialled_then (g.B.ConnectionSource.now c.args.source.now) (g.B.ConnectionSource.now c.loop-e.source) (g.B.ConnectionSource.now c.poll_try_recv.new.source) known.source told.source;
      left = le_trans c.goes_on.ensures.fewer (le_trans told.left known.left);
      pending = inr (c.goes_on.ensures.none (search rules));
      fails = tt;
      closed = tt;
    }

pub loop-e-preserved : goal.loop-e-preserved
loop-e-preserved g c =
    let known = c.loop-e.invariant in
    let told = c.in-Ready-Ok-None.ensures in
    let hears = rw (c.in-Ready-Ok-None.field-0-is, c.in-Ready-Ok-None.field-0-0-is) at told.hears in
    let startup = rw c.in-Ready-Ok-None.field-0-is at told.startup in
    let faults = rw c.in-Ready-Ok-None.field-0-is at told.causes in
    record {
      hears = hears_behind g.B.L.Link.seen _ _ _ [] known.hears hears;
      startup = starts_then g.B.L.Link.seen g.B.ConnectionSource.filling _ _ _ known.startup startup;
      faults = faults ∙ known.faults;
      channels = told.channels ∙ known.channels;
      source = dialled_then (g.B.ConnectionSource.now c.args.source.now) (g.B.ConnectionSource.now c.loop-e.source) (g.B.ConnectionSource.now c.poll_try_recv.new.source) known.source told.source;
      mine = known.mine;
      left = le_trans c.goes_on.ensures.fewer (le_trans told.left known.left);
      most = known.most;
    }
