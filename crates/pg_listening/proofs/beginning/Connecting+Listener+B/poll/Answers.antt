use Rattle.std.proofs.Common.{◌∙◌, ap, sym, refl}
use Rattle.pg_listening.specs.Listeners.{is_answered}
use Rattle.pg_listening.proofs.ConnectingLaws.{connects_last, connects_later, connects_none}
use Rattle.pg_listening.proofs.beginning.Connecting+Listener+B.poll.Goals as goal

pub returns-in-Pending : goal.returns-in-Pending
returns-in-Pending g c =
    let told = c.in-Pending.ensures in
    record {
      over = c.requires.over;
      connects = connects_later g.B.L.Link.seen g.B.Held.PgExecutor.conn g.B.Held.PgExecutor.with_conn g.B.ConnectionSource.filling g.B.ConnectionSource.now c.poll_connect.new.left _ c.in-Some.listener c.poll_connect.new.self c.in-Some.is (told.hears, told.channels) told.causes;
    }

pub returns-in-Ready-Err : goal.returns-in-Ready-Err
returns-in-Ready-Err g c =
    let told = c.in-Ready-Err.ensures in
    record {
      over = refl;
      connects =
          connects_none g.B.L.Link.seen g.B.Held.PgExecutor.conn g.B.Held.PgExecutor.with_conn g.B.ConnectionSource.filling g.B.ConnectionSource.now c.poll_connect.new.left _ c.in-Some.listener c.poll_connect.new.self c.in-Ready-Err.e c.in-Some.is (told.hears, told.channels) (rw c.in-Ready-Err.field-0-is at told.causes)
          (rw c.in-Ready-Err.field-0-is at told.closed);
    }

pub returns-in-Ready-Ok : goal.returns-in-Ready-Ok
returns-in-Ready-Ok g c =
    let told = c.in-Ready-Ok.ensures in
    record {
      over = c.hand_on.ensures.over ∙ ap is_answered (sym c.hand_on.ensures.hands.0);
      connects = connects_last g.B.L.Link.seen g.B.Held.PgExecutor.conn g.B.Held.PgExecutor.with_conn g.B.ConnectionSource.filling g.B.ConnectionSource.now _ _ c.in-Some.listener c.poll_connect.new.self c.hand_on.result c.in-Some.is (told.hears, told.channels) (rw c.in-Ready-Ok.field-0-is at told.held) c.hand_on.ensures.hands;
    }
