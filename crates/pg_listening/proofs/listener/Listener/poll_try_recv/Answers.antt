use Rattle.pg_listening.proofs.listener.Listener.poll_try_recv.Goals as goal

pub returns : goal.returns
returns g c =
    let first = c.poll_try_recv.ensures in
    record {
      hears = rw (← c.self.view_is) (rw c.told.ensures first.hears);
      channels = rw (← c.self.view_is) first.channels;
      left = first.left;
      loss = rw (← c.self.view_is) (rw c.told.ensures first.loss);
      oldest = rw (← c.self.view_is) (rw c.told.ensures first.oldest);
      again = rw (← c.self.view_is) (rw c.told.ensures first.again);
      causes = rw (← c.self.view_is) (rw c.told.ensures first.causes);
      closed = rw (← c.self.view_is) (rw c.told.ensures first.closed);
      asks = rw (← c.self.view_is) (rw c.told.ensures first.asks);
    }
