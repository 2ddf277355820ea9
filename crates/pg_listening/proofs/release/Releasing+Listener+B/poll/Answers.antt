use Rattle.std.proofs.Common.{◌∙◌, refl, sym}
use Rattle.pg_listening.proofs.ReleaseLaws.{releases_last, releases_later, releases_none, some_same}
use Rattle.pg_listening.proofs.release.Releasing+Listener+B.poll.Goals as goal

pub returns-in-Some-take : goal.returns-in-Some-take
returns-in-Some-take g c =
    let last = c.in-Some-take.listener in
    let gone = c.into_released.ensures in
    let is = some_same c.poll_asking.new.self last (sym c.take.ensures.value ∙ c.in-Some-take.is) in
    record {
      over = refl;
      releases = releases_last g.B.L.Link.seen g.B.Held.PgExecutor.conn g.B.Held.PgExecutor.with_conn g.B.ConnectionSource.handed g.B.ConnectionSource.filling g.B.ConnectionSource.now _ _ c.in-Some.listener last c.into_released.result c.in-Some.is c.take.ensures.after (rw (← is) c.poll_asking.ensures.hears) gone.some gone.releases;
      begun = c.poll_asking.ensures.begun;
    }

pub returns-in-Pending : goal.returns-in-Pending
returns-in-Pending g c =
    let told = c.in-Pending.ensures in
    record {
      over = c.requires.over;
      releases = releases_later g.B.L.Link.seen g.B.Held.PgExecutor.conn g.B.Held.PgExecutor.with_conn g.B.ConnectionSource.handed g.B.ConnectionSource.filling g.B.ConnectionSource.now c.poll_asking.new.left _ c.in-Some.listener c.poll_asking.new.self c.in-Some.is told.hears told.changes.2 told.causes;
      begun = told.begun;
    }

pub returns-in-Ready-Err : goal.returns-in-Ready-Err
returns-in-Ready-Err g c =
    let told = c.in-Ready-Err.ensures in
    record {
      over = refl;
      releases = releases_none g.B.L.Link.seen g.B.Held.PgExecutor.conn g.B.Held.PgExecutor.with_conn g.B.ConnectionSource.handed g.B.ConnectionSource.filling g.B.ConnectionSource.now c.poll_asking.new.left _ c.in-Some.listener c.poll_asking.new.self c.in-Ready-Err.e c.in-Some.is told.hears (rw c.in-Ready-Err.field-0-is at told.causes);
      begun = told.begun;
    }
