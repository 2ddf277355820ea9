use Rattle.pg_listening.proofs.FailingLaws.{notes_caused}
use Rattle.pg_listening.proofs.listener.Listener.poll_connect.Goals as goal

pub returns : goal.returns
returns g c =
    let told = c.poll_connect.ensures in
    record {
      hears = rw (← c.self.view_is) told.hears;
      channels = rw (← c.self.view_is) told.channels;
      left = told.left;
      held = told.held;
      causes = rw (← c.self.view_is) told.causes;
      closed = rw (← c.self.view_is) (notes_caused g.B.L.Link.seen g.B.Held.PgExecutor.conn g.B.Held.PgExecutor.with_conn g.B.ConnectionSource.filling _ _ _ _ _ c.poll_connect.result told.causes);
    }
