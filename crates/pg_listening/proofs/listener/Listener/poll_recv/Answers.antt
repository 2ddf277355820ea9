use Rattle.pg_listening.proofs.listener.Listener.poll_recv.Goals as goal

pub returns : goal.returns
returns g c =
    let told = c.poll_recv.ensures in
    record {
      hears = rw (← c.self.view_is) (rw c.told_one.ensures told.hears);
      channels = rw (← c.self.view_is) told.channels;
      left = told.left;
      pending = rw (← c.self.view_is) (rw c.told_one.ensures told.pending);
      fails = rw (← c.self.view_is) (rw c.told_one.ensures told.fails);
      closed = rw (← c.self.view_is) (rw c.told_one.ensures told.closed);
    }
